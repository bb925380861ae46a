-- Types as finite trees over qualified names. A defined type, an alias and a type parameter are leaves that hold a
-- name, so recursion goes through names alone.
use Rattle.std.specs.Prelude.{ℕ, Bool, List, [], ◌∷◌}
use Rattle.code_tables.specs.declared.predeclared.Basic.{Basic}
use Rattle.go_values.specs.declared.qualified.QName.{QName}
use Rattle.go_values.specs.declared.positions.Pos.{Pos}
use Rattle.type_terms.specs.declared.literals.Dir.{Dir}
use Rattle.type_terms.specs.Shapes.{ParamOf, OriginOf, FieldOf, MethodOf, TermOf, Shape, predeclared_of, named_of}
use Rattle.type_terms.specs.Shapes.{parameter_of, alias_of, pointer_of, slice_of, array_of, chan_of, map_of, func_of}
use Rattle.type_terms.specs.Shapes.{struct_of, interface_of, instance_of, union_of}

abbrev pub Text : Type 0
Text = List ℕ

mutual
  pub data Tree : Type 0 where
    predeclared : Basic → Tree
    named : QName → Tree
    parameter : QName → Tree
    alias : QName → Tree
    pointer : Tree → Tree
    slice : Tree → Tree
    array : ℕ → Tree → Tree
    chan : Dir → Tree → Tree
    map_type : Tree → Tree → Tree
    -- the path of the package in which the literal stands, the parameters, the results, and whether it is variadic
    func : Text → Params → Params → Bool → Tree
    struct : Text → Fields → Tree
    -- the embedded types, and the methods
    interface : Text → Trees → Methods → Tree
    -- the generic type, and the arguments
    instance : Tree → Trees → Tree
    union : Terms → Tree

  pub data Trees : Type 0 where
    no_types : Trees
    types : Tree → Trees → Trees

  pub data Params : Type 0 where
    no_params : Params
    params : Pos → Text → Tree → Params → Params

  -- a field has an origin, a position, a name, a type, whether it is embedded, and a tag
  pub data Fields : Type 0 where
    no_fields : Fields
    fields : OriginOf Text Text → Pos → Text → Tree → Bool → Text → Fields → Fields

  -- a method has an origin, a position, a name, parameters, results, and whether it is variadic
  pub data Methods : Type 0 where
    no_methods : Methods
    methods : OriginOf Text Text → Pos → Text → Params → Params → Bool → Methods → Methods

  -- a term has a tilde or none, and a type
  pub data Terms : Type 0 where
    no_terms : Terms
    terms : Bool → Tree → Terms → Terms

-- One level of a tree, flat, and back.
abbrev pub Level : Type 0
Level = Shape Pos Text Text Tree

abbrev pub type_list : Trees → List Tree
type_list no_types = []
type_list (types type rest) = type ∷ type_list rest

abbrev pub param_list : Params → List (ParamOf Pos Text Tree)
param_list no_params = []
param_list (params pos name type rest) = record { pos = pos; name = name; type = type } ∷ param_list rest

abbrev pub field_list : Fields → List (FieldOf Pos Text Text Tree)
field_list no_fields = []
field_list (fields origin pos name type embedded tag rest) = record
    { origin = origin; pos = pos; name = name; type = type; embedded = embedded; tag = tag } ∷ field_list rest

abbrev pub method_list : Methods → List (MethodOf Pos Text Text Tree)
method_list no_methods = []
method_list (methods origin pos name ins outs variadic rest) = record {
  origin = origin;
  pos = pos;
  name = name;
  sig = record
      { params = param_list ins; results = param_list outs; variadic = variadic };
} ∷ method_list rest

abbrev pub term_list : Terms → List (TermOf Tree)
term_list no_terms = []
term_list (terms tilde type rest) = record { tilde = tilde; type = type } ∷ term_list rest

abbrev pub level_of : Tree → Level
level_of (predeclared basic) = predeclared_of basic
level_of (named q) = named_of q.name q.path
level_of (parameter q) = parameter_of q.name q.path
level_of (alias q) = alias_of q.name q.path
level_of (pointer type) = pointer_of type
level_of (slice type) = slice_of type
level_of (array size type) = array_of size type
level_of (chan dir type) = chan_of dir type
level_of (map_type key type) = map_of key type
level_of (func home ins outs variadic) = func_of home
    (record { params = param_list ins; results = param_list outs; variadic = variadic })
level_of (struct home parts) = struct_of home (field_list parts)
level_of (interface home embedded parts) = interface_of home (type_list embedded) (method_list parts)
level_of (instance base args) = instance_of base (type_list args)
level_of (union parts) = union_of (term_list parts)

abbrev pub types_of : List Tree → Trees
types_of [] = no_types
types_of (type ∷ rest) = types type (types_of rest)

abbrev pub params_of : List (ParamOf Pos Text Tree) → Params
params_of [] = no_params
params_of (x ∷ rest) = params x.pos x.name x.type (params_of rest)

abbrev pub fields_of : List (FieldOf Pos Text Text Tree) → Fields
fields_of [] = no_fields
fields_of (x ∷ rest) = fields x.origin x.pos x.name x.type x.embedded x.tag (fields_of rest)

abbrev pub methods_of : List (MethodOf Pos Text Text Tree) → Methods
methods_of [] = no_methods
methods_of (x ∷ rest) = methods x.origin x.pos x.name (params_of x.sig.params) (params_of x.sig.results) x.sig.variadic
    (methods_of rest)

abbrev pub terms_of : List (TermOf Tree) → Terms
terms_of [] = no_terms
terms_of (x ∷ rest) = terms x.tilde x.type (terms_of rest)

abbrev pub tree_of : Level → Tree
tree_of (predeclared_of basic) = predeclared basic
tree_of (named_of name path) = named (record { path = path; name = name })
tree_of (parameter_of name path) = parameter (record { path = path; name = name })
tree_of (alias_of name path) = alias (record { path = path; name = name })
tree_of (pointer_of type) = pointer type
tree_of (slice_of type) = slice type
tree_of (array_of size type) = array size type
tree_of (chan_of dir type) = chan dir type
tree_of (map_of key type) = map_type key type
tree_of (func_of home sig) = func home (params_of sig.params) (params_of sig.results) sig.variadic
tree_of (struct_of home parts) = struct home (fields_of parts)
tree_of (interface_of home embedded parts) = interface home (types_of embedded) (methods_of parts)
tree_of (instance_of base args) = instance base (types_of args)
tree_of (union_of parts) = union (terms_of parts)
