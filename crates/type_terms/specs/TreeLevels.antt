-- A tree is its one level, and a level is that of one tree.
use Rattle.std.proofs.Common.{◌≡◌, List, [], ◌∷◌, refl, ap, sym, ◌∙◌}
use Rattle.go_values.specs.declared.positions.Pos.{Pos}
use Rattle.type_terms.specs.Shapes.{ParamOf, SigOf, FieldOf, MethodOf, TermOf, func_of, struct_of, interface_of}
use Rattle.type_terms.specs.Shapes.{instance_of, union_of}
use Rattle.type_terms.specs.Trees.{Text, Tree, func, struct, interface, instance, union, Trees, no_types, types, Params}
use Rattle.type_terms.specs.Trees.{no_params, params, Fields, no_fields, fields, Methods, no_methods, methods, Terms}
use Rattle.type_terms.specs.Trees.{no_terms, terms, Level, level_of, type_list, param_list, field_list, method_list}
use Rattle.type_terms.specs.Trees.{term_list, types_of, params_of, fields_of, methods_of, terms_of, tree_of}

pub types_back : (xs : List Tree) → type_list (types_of xs) ≡ xs
types_back [] = refl
types_back (x ∷ xs) = ap (λ rest. x ∷ rest) (types_back xs)

params_back : (xs : List (ParamOf Pos Text Tree)) → param_list (params_of xs) ≡ xs
params_back [] = refl
params_back (x ∷ xs) = ap (λ rest. x ∷ rest) (params_back xs)

fields_back : (xs : List (FieldOf Pos Text Text Tree)) → field_list (fields_of xs) ≡ xs
fields_back [] = refl
fields_back (x ∷ xs) = ap (λ rest. x ∷ rest) (fields_back xs)

sig_back : (x : SigOf Pos Text Tree)
    → record {
      params = param_list (params_of x.params);
      results = param_list (params_of x.results);
      variadic =
          x.variadic;
    } ≡ x
sig_back x = λ i. record { params = params_back x.params i; results = params_back x.results i; variadic = x.variadic }

methods_back : (xs : List (MethodOf Pos Text Text Tree)) → method_list (methods_of xs) ≡ xs
methods_back [] = refl
methods_back (x ∷ xs) =
    λ i. record { origin = x.origin; pos = x.pos; name = x.name; sig = sig_back x.sig i } ∷ methods_back xs i

terms_back : (xs : List (TermOf Tree)) → term_list (terms_of xs) ≡ xs
terms_back [] = refl
terms_back (x ∷ xs) = ap (λ rest. x ∷ rest) (terms_back xs)

pub level_of-tree_of : (level : Level) → level_of (tree_of level) ≡ level
level_of-tree_of (func_of home sig) = ap (func_of home) (sig_back sig)
level_of-tree_of (struct_of home inner) = ap (struct_of home) (fields_back inner)
level_of-tree_of (interface_of home embedded inner) = λ i.
    interface_of home (types_back embedded i) (methods_back inner i)
level_of-tree_of (instance_of base args) = ap (instance_of base) (types_back args)
level_of-tree_of (union_of inner) = ap union_of (terms_back inner)
level_of-tree_of _ = refl

types_again : (xs : Trees) → types_of (type_list xs) ≡ xs
types_again no_types = refl
types_again (types type rest) = ap (types type) (types_again rest)

params_again : (xs : Params) → params_of (param_list xs) ≡ xs
params_again no_params = refl
params_again (params pos name type rest) = ap (params pos name type) (params_again rest)

fields_again : (xs : Fields) → fields_of (field_list xs) ≡ xs
fields_again no_fields = refl
fields_again (fields origin pos name type embedded tag rest) = ap (fields origin pos name type embedded tag)
    (fields_again rest)

methods_again : (xs : Methods) → methods_of (method_list xs) ≡ xs
methods_again no_methods = refl
methods_again (methods origin pos name ins outs variadic rest) =
    λ i. methods origin pos name (params_again ins i) (params_again outs i) variadic (methods_again rest i)

terms_again : (xs : Terms) → terms_of (term_list xs) ≡ xs
terms_again no_terms = refl
terms_again (terms tilde type rest) = ap (terms tilde type) (terms_again rest)

pub tree_of-level_of : (tree : Tree) → tree_of (level_of tree) ≡ tree
tree_of-level_of (func home ins outs variadic) = λ i. func home (params_again ins i) (params_again outs i) variadic
tree_of-level_of (struct home inner) = ap (struct home) (fields_again inner)
tree_of-level_of (interface home embedded inner) = λ i. interface home (types_again embedded i) (methods_again inner i)
tree_of-level_of (instance base args) = ap (instance base) (types_again args)
tree_of-level_of (union inner) = ap union (terms_again inner)
tree_of-level_of _ = refl

-- two levels are those of one tree only where they are equal
pub level_told : (x y : Level) → tree_of x ≡ tree_of y → x ≡ y
level_told x y e = sym (level_of-tree_of x) ∙ ap level_of e ∙ level_of-tree_of y
