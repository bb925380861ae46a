-- One level of what is written of a type, from the level of the type.
use Rattle.std.proofs.Common.{◌≡◌, List, [], ◌∷◌, map, refl, ap, ap₂, ◌∙◌}
use Rattle.go_values.specs.declared.positions.Pos.{Pos}
use Rattle.type_terms.specs.Shapes.{ParamOf, SigOf, FieldOf, MethodOf, TermOf, predeclared_of, named_of, parameter_of, alias_of, pointer_of, slice_of, array_of, chan_of, map_of, func_of, struct_of, interface_of, instance_of, union_of}
use Rattle.type_terms.specs.Trees.{Text, Tree, predeclared, named, parameter, alias, pointer, slice, array, chan, map_type, func, struct, interface, instance, union, Trees, no_types, types, Params, no_params, params, Fields, no_fields, fields, Methods, no_methods, methods, Terms, no_terms, terms, Level, level_of, tree_of, type_list, param_list, field_list, method_list, term_list, methods_of}
use Rattle.type_terms.specs.TreeLevels.{level_of-tree_of}
use Rattle.file_layout.specs.Conditions.{no_origin}
use Rattle.written_types.specs.ByName.{by_name}
use Rattle.written_types.specs.Written.{full, position_written, element, written, types_written, elements_written, params_written, fields_written, methods_written, terms_written}

abbrev pub written_full : Tree → Tree
written_full type = written full type

abbrev pub element_written : Tree → Tree
element_written type = element (written full type)

abbrev pub param_written : ParamOf Pos Text Tree → ParamOf Pos Text Tree
param_written x = record { pos = position_written x.pos; name = x.name; type = written full x.type }

abbrev pub sig_written : SigOf Pos Text Tree → SigOf Pos Text Tree
sig_written x = record { params = map param_written x.params; results = map param_written x.results; variadic = x.variadic }

abbrev pub field_written : FieldOf Pos Text Text Tree → FieldOf Pos Text Text Tree
field_written x = record { origin = no_origin; pos = position_written x.pos; name = x.name; type = written full x.type; embedded = x.embedded; tag = x.tag }

abbrev pub method_written : MethodOf Pos Text Text Tree → MethodOf Pos Text Text Tree
method_written x = record { origin = no_origin; pos = position_written x.pos; name = x.name; sig = sig_written x.sig }

abbrev pub term_written : TermOf Tree → TermOf Tree
term_written x = record { tilde = x.tilde; type = written full x.type }

abbrev pub level_written : Level → Level
level_written (predeclared_of basic) = predeclared_of basic
level_written (named_of name path) = named_of name path
level_written (parameter_of name path) = parameter_of name path
level_written (alias_of name path) = alias_of name path
level_written (pointer_of type) = pointer_of (written full type)
level_written (slice_of type) = slice_of (written full type)
level_written (array_of size type) = array_of size (written full type)
level_written (chan_of dir type) = chan_of dir (written full type)
level_written (map_of key type) = map_of (written full key) (written full type)
level_written (func_of home sig) = func_of home (sig_written sig)
level_written (struct_of home parts) = struct_of home (map field_written parts)
level_written (interface_of home embedded parts) = interface_of home (map element_written embedded) (by_name (map method_written parts))
level_written (instance_of base args) = instance_of base (map written_full args)
level_written (union_of parts) = union_of (map term_written parts)

types_are : (xs : Trees) → type_list (types_written full xs) ≡ map written_full (type_list xs)
types_are no_types = refl
types_are (types type rest) = ap (λ (ts : List Tree). written full type ∷ ts) (types_are rest)

elements_are : (xs : Trees) → type_list (elements_written full xs) ≡ map element_written (type_list xs)
elements_are no_types = refl
elements_are (types type rest) = ap (λ (ts : List Tree). element (written full type) ∷ ts) (elements_are rest)

params_are : (xs : Params) → param_list (params_written full xs) ≡ map param_written (param_list xs)
params_are no_params = refl
params_are (params pos name type rest) = ap (λ ps. param_written (record { pos = pos; name = name; type = type }) ∷ ps) (params_are rest)

fields_are : (xs : Fields) → field_list (fields_written full xs) ≡ map field_written (field_list xs)
fields_are no_fields = refl
fields_are (fields origin pos name type embedded tag rest) =
    ap (λ fs. field_written (record { origin = origin; pos = pos; name = name; type = type; embedded = embedded; tag = tag }) ∷ fs) (fields_are rest)

methods_are : (xs : Methods) → method_list (methods_written full xs) ≡ map method_written (method_list xs)
methods_are no_methods = refl
methods_are (methods origin pos name ins outs variadic rest) = λ i.
    record { origin = no_origin; pos = position_written pos; name = name; sig = record { params = params_are ins i; results = params_are outs i; variadic = variadic } } ∷ methods_are rest i

terms_are : (xs : Terms) → term_list (terms_written full xs) ≡ map term_written (term_list xs)
terms_are no_terms = refl
terms_are (terms tilde type rest) = ap (λ ts. term_written (record { tilde = tilde; type = type }) ∷ ts) (terms_are rest)

-- methods that are made of a list are that list
methods_listed : (xs : List (MethodOf Pos Text Text Tree)) → method_list (methods_of xs) ≡ xs
methods_listed xs = parts (level_of-tree_of (interface_of [] [] xs))
  where
    methods_in : Level → List (MethodOf Pos Text Text Tree)
    methods_in (interface_of home embedded ms) = ms
    methods_in _ = []

    parts : level_of (tree_of (interface_of [] [] xs)) ≡ interface_of [] [] xs → method_list (methods_of xs) ≡ xs
    parts e = ap methods_in e

pub level_is : (type : Tree) → level_of (written full type) ≡ level_written (level_of type)
level_is (func home ins outs variadic) = λ i. func_of home (record { params = params_are ins i; results = params_are outs i; variadic = variadic })
level_is (struct home inner) = ap (struct_of home) (fields_are inner)
level_is (interface home embedded inner) = ap₂ (interface_of home) (elements_are embedded) (methods_listed (by_name (method_list (methods_written full inner))) ∙ ap by_name (methods_are inner))
level_is (instance base args) = ap (instance_of base) (types_are args)
level_is (union inner) = ap union_of (terms_are inner)
level_is (predeclared basic) = refl
level_is (named q) = refl
level_is (parameter q) = refl
level_is (alias q) = refl
level_is (pointer type) = refl
level_is (slice type) = refl
level_is (array size type) = refl
level_is (chan dir type) = refl
level_is (map_type key type) = refl
