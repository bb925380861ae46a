-- A walk by one level: the parts of a type, in reading order, and then the type.
use Rattle.std.proofs.Common.{◌≡◌, List, [], ◌∷◌, ◌++◌, refl, ap, sym, ◌∙◌}
use Rattle.std.specs.List.{flat_map}
use Rattle.std.proofs.lemmas.Grind.{flat_map-append}
use Rattle.std.proofs.lemmas.List.{append-nil}
use Rattle.type_terms.specs.Shapes.{param_types, field_types, method_types, term_types}
use Rattle.type_terms.specs.Parts.{parts}
use Rattle.type_terms.specs.Trees.{Tree, pointer, slice, array, chan, map_type, func, struct, interface, instance, union, Trees, no_types, types, Params, no_params, params, Fields, no_fields, fields, Methods, no_methods, methods, Terms, no_terms, terms, type_list, param_list, field_list, method_list, term_list}
use Rattle.decl_text.specs.Walks.{walk, types_walk, params_walk, fields_walk, methods_walk, terms_walk}

of_types : (xs : Trees) → types_walk xs ≡ flat_map walk (type_list xs)
of_types no_types = refl
of_types (types type rest) = ap (λ r. walk type ++ r) (of_types rest)

of_params : (xs : Params) → params_walk xs ≡ flat_map walk (flat_map param_types (param_list xs))
of_params no_params = refl
of_params (params pos name type rest) = ap (λ r. walk type ++ r) (of_params rest)

of_fields : (xs : Fields) → fields_walk xs ≡ flat_map walk (flat_map field_types (field_list xs))
of_fields no_fields = refl
of_fields (fields origin pos name type embedded tag rest) = ap (λ r. walk type ++ r) (of_fields rest)

of_terms : (xs : Terms) → terms_walk xs ≡ flat_map walk (flat_map term_types (term_list xs))
of_terms no_terms = refl
of_terms (terms tilde type rest) = ap (λ r. walk type ++ r) (of_terms rest)

of_sig : (ins outs : Params) → params_walk ins ++ params_walk outs ≡ flat_map walk (flat_map param_types (param_list ins) ++ flat_map param_types (param_list outs))
of_sig ins outs =
    (λ i. of_params ins i ++ of_params outs i) ∙ sym (flat_map-append walk (flat_map param_types (param_list ins)) (flat_map param_types (param_list outs)))

of_methods : (xs : Methods) → methods_walk xs ≡ flat_map walk (flat_map method_types (method_list xs))
of_methods no_methods = refl
of_methods (methods origin pos name ins outs variadic rest) =
    (λ i. of_sig ins outs i ++ of_methods rest i)
    ∙ sym (flat_map-append walk (flat_map param_types (param_list ins) ++ flat_map param_types (param_list outs)) (flat_map method_types (method_list rest)))

-- what stands before the type itself is the walk through its parts
behind : (type : Tree) (front : List Tree) → front ≡ flat_map walk (parts type) → front ++ type ∷ [] ≡ flat_map walk (parts type) ++ type ∷ []
behind type front same = ap (λ r. r ++ type ∷ []) same

pub walk_of_level : (type : Tree) → walk type ≡ flat_map walk (parts type) ++ type ∷ []
walk_of_level (pointer type) = behind (pointer type) _ (sym (append-nil (walk type)))
walk_of_level (slice type) = behind (slice type) _ (sym (append-nil (walk type)))
walk_of_level (array size type) = behind (array size type) _ (sym (append-nil (walk type)))
walk_of_level (chan dir type) = behind (chan dir type) _ (sym (append-nil (walk type)))
walk_of_level (map_type key type) = behind (map_type key type) _ (ap (λ r. walk key ++ r) (sym (append-nil (walk type))))
walk_of_level (func home ins outs variadic) = behind (func home ins outs variadic) _ (of_sig ins outs)
walk_of_level (struct home inner) = behind (struct home inner) _ (of_fields inner)
walk_of_level (interface home embedded inner) =
    behind (interface home embedded inner) _
    ((λ i. of_types embedded i ++ of_methods inner i) ∙ sym (flat_map-append walk (type_list embedded) (flat_map method_types (method_list inner))))
walk_of_level (instance base args) =
    let one : walk base ≡ flat_map walk (base ∷ []) = sym (append-nil (walk base)) in
    behind (instance base args) _
    ((λ i. of_types args i ++ one i) ∙ sym (flat_map-append walk (type_list args) (base ∷ [])))
walk_of_level (union inner) = behind (union inner) _ (of_terms inner)
walk_of_level _ = refl
