-- The interface that an underlying type is.
use Rattle.std.specs.Prelude.{[], ◌∷◌, ◌&&◌, Bool, true, false, cond, map, Option, Some, None}
use Rattle.go_values.specs.declared.qualified.QName.{QName}
use Rattle.go_values.specs.declared.positions.Pos.{Pos}
use Rattle.go_values.specs.declared.positions.Pos.TheVariants.{Nowhere}
use Rattle.code_tables.specs.declared.predeclared.Basic.{Basic}
use Rattle.code_tables.specs.declared.predeclared.Basic.TheVariants.{Any, Error, Comparable, String as string_type}
use Rattle.type_terms.specs.Shapes.{ParamOf, SigOf, MethodOf}
use Rattle.type_terms.specs.Trees.{Text, Tree, predeclared, interface, union, Terms, type_list, method_list, term_list}
use Rattle.type_terms.specs.TreeEquality.{same_text}
use Rattle.environments.specs.Exported.{exported}
use Rattle.interface_opening.specs.Elements.{Element, Interface}

-- A method of a type set. Its home is the package of the interface where its name isn't exported, and else empty.
pub record SetMethod : Type 0 where
  pub name : Text
  pub home : Text
  pub sig : SigOf Pos Text Tree

abbrev pub same_key : SetMethod → SetMethod → Bool
same_key x y = same_text x.name y.name && same_text x.home y.home

abbrev pub set_method : Text → MethodOf Pos Text Text Tree → SetMethod
set_method home method = record
    { name = method.name; home = cond (exported method.name) [] home; sig = method.sig }

-- the method of `error`, `Error() string`; its bytes are those of the name
abbrev pub error_result : ParamOf Pos Text Tree
error_result = record { pos = Nowhere; name = []; type = predeclared string_type }

abbrev pub error_method : SetMethod
error_method = record {
  name = 69 ∷ 114 ∷ 114 ∷ 111 ∷ 114 ∷ [];
  home = [];
  sig = record { params = []; results = error_result ∷ []; variadic = false };
}

abbrev pub union_terms : Terms → Element Tree
union_terms inner = map (λ x. record { tilde = x.tilde; type = x.type }) (term_list inner)

-- what is embedded: the terms of a union, or the type as one term
abbrev pub element : Tree → Element Tree
element (union inner) = union_terms inner
element type = record { tilde = false; type = type } ∷ []

abbrev pub predeclared_interface : Option QName → Basic → Option (Interface Tree QName SetMethod)
predeclared_interface name Any = Some (record { name = name; own = []; flag = false; elements = [] })
predeclared_interface name Error = Some (record { name = name; own = error_method ∷ []; flag = false; elements = [] })
predeclared_interface name Comparable = Some (record { name = name; own = []; flag = true; elements = [] })
predeclared_interface name _ = None

-- The interface that an underlying type is, if it is one, with the name of the defined type whose it is. A union that
-- isn't written as an element is the interface that embeds it.
abbrev pub interface_of : Option QName → Tree → Option (Interface Tree QName SetMethod)
interface_of name (predeclared basic) = predeclared_interface name basic
interface_of name (interface home embedded own) = Some (record {
  name = name;
  own = map (set_method home) (method_list own);
  flag = false;
  elements = map element (type_list embedded);
})
interface_of name (union inner) =
    Some (record { name = name; own = []; flag = false; elements = union_terms inner ∷ [] })
interface_of name _ = None
