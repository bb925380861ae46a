-- The references of a type are those of its parts in reading order, and the names reached are the least set closed
-- under references.
use Rattle.std.proofs.Common.{◌≡◌, List, [], ◌∷◌, ◌++◌, length, Option, refl, ap, sym, ◌∙◌, arith}
use Rattle.std.specs.List.{flat_map, Contains}
use Rattle.std.proofs.lemmas.Grind.{flat_map-append}
use Rattle.go_values.specs.declared.qualified.QName.{QName}
use Rattle.type_terms.specs.Shapes.{param_types, field_types, method_types, term_types}
use Rattle.type_terms.specs.Trees.{Tree, pointer, slice, array, chan, map_type, func, struct, interface, instance}
use Rattle.type_terms.specs.Trees.{union, Trees, no_types, types, Params, no_params, params, Fields, no_fields, fields}
use Rattle.type_terms.specs.Trees.{Methods, no_methods, methods, Terms, no_terms, terms, type_list, param_list}
use Rattle.type_terms.specs.Trees.{field_list, method_list, term_list, predeclared, named, parameter, alias}
use Rattle.type_terms.specs.Parts.{parts}
use Rattle.environments.specs.Environments.{Entry}
use Rattle.environments.specs.References.{argument_count, tree_references, base_references, types_references}
use Rattle.environments.specs.References.{params_references, fields_references, methods_references, terms_references}
use Rattle.environments.specs.References.{IsByParts, entry_names, Reached, started, followed}

arguments : (xs : Trees) → argument_count xs ≡ length (type_list xs)
arguments no_types = refl
arguments (types type rest) = omega (arith, arguments rest)

of_types : (xs : Trees) → types_references xs ≡ flat_map tree_references (type_list xs)
of_types no_types = refl
of_types (types type rest) = ap (λ r. tree_references type ++ r) (of_types rest)

of_params : (xs : Params) → params_references xs ≡ flat_map tree_references (flat_map param_types (param_list xs))
of_params no_params = refl
of_params (params pos name type rest) = ap (λ r. tree_references type ++ r) (of_params rest)

of_fields : (xs : Fields) → fields_references xs ≡ flat_map tree_references (flat_map field_types (field_list xs))
of_fields no_fields = refl
of_fields (fields origin pos name type embedded tag rest) = ap (λ r. tree_references type ++ r) (of_fields rest)

of_terms : (xs : Terms) → terms_references xs ≡ flat_map tree_references (flat_map term_types (term_list xs))
of_terms no_terms = refl
of_terms (terms tilde type rest) = ap (λ r. tree_references type ++ r) (of_terms rest)

of_sig : (ins outs : Params)
    → params_references ins ++ params_references outs
    ≡ flat_map tree_references (flat_map param_types (param_list ins) ++ flat_map param_types (param_list outs))
of_sig ins outs =
    (λ i. of_params ins i ++ of_params outs i) ∙ sym
    (flat_map-append tree_references (flat_map param_types (param_list ins))
    (flat_map param_types (param_list outs)))

of_methods : (xs : Methods) → methods_references xs ≡ flat_map tree_references (flat_map method_types (method_list xs))
of_methods no_methods = refl
of_methods (methods origin pos name ins outs variadic rest) =
    (λ i. of_sig ins outs i ++ of_methods rest i)
    ∙ sym (flat_map-append tree_references (flat_map param_types (param_list ins)
    ++ flat_map param_types (param_list outs)) (flat_map method_types (method_list rest)))

single : {X : Type 0} (xs : List X) → xs ≡ xs ++ []
single [] = refl
single (x ∷ xs) = ap (λ r. x ∷ r) (single xs)

-- the references of a type that is neither a name nor an instance are those of its parts
pub references_of_parts : (type : Tree) → IsByParts type → tree_references type ≡ flat_map tree_references (parts type)
references_of_parts (named q) by_parts = absurd by_parts
references_of_parts (parameter q) by_parts = absurd by_parts
references_of_parts (alias q) by_parts = absurd by_parts
references_of_parts (instance base args) by_parts = absurd by_parts
references_of_parts (predeclared basic) _ = refl
references_of_parts (pointer type) _ = single (tree_references type)
references_of_parts (slice type) _ = single (tree_references type)
references_of_parts (array size type) _ = single (tree_references type)
references_of_parts (chan dir type) _ = single (tree_references type)
references_of_parts (map_type key type) _ = ap (λ r. tree_references key ++ r) (single (tree_references type))
references_of_parts (func home ins outs variadic) _ = of_sig ins outs
references_of_parts (struct home inner) _ = of_fields inner
references_of_parts (interface home embedded inner) _ =
    (λ i. of_types embedded i ++ of_methods inner i) ∙ sym
    (flat_map-append tree_references (type_list embedded) (flat_map method_types (method_list inner)))
references_of_parts (union inner) _ = of_terms inner

-- those of an instance are those of its arguments, and then its base
pub references_of_instance : (base : Tree) (args : Trees)
    → tree_references (instance base args)
    ≡ flat_map tree_references (type_list args) ++ base_references base (length (type_list args))
references_of_instance base args = λ i. of_types args i ++ base_references base (arguments args i)

module _ (entries : QName → Option Entry) where
  abbrev refs : QName → List QName
  refs q = entry_names (entries q)

  -- whatever holds of the names and, with a name, of those it refers to, holds of all that are reached
  pub reached_least : (starts : List QName) (P : QName → Type 0) → ((q : QName) → Contains starts q → P q)
      → ((from to : QName) → P from → Contains (refs from) to → P to) → (q : QName) → Reached entries starts q → P q
  reached_least starts P begins closed _ (started q h) = begins q h
  reached_least starts P begins closed _ (followed from to r h) = closed from to
      (reached_least starts P begins closed from r) h

  -- what is reached from reached names is reached
  pub reached_again : (starts more : List QName) → ((q : QName) → Contains more q → Reached entries starts q)
      → (q : QName) → Reached entries more q → Reached entries starts q
  reached_again starts more inside = reached_least more (Reached entries starts) inside (λ from to r h.
      followed from to r h)

  -- from more names more is reached
  pub reached_monotone : (fewer more : List QName) → ((q : QName) → Contains fewer q → Contains more q) → (q : QName)
      → Reached entries fewer q → Reached entries more q
  reached_monotone fewer more inside = reached_again more fewer (λ q h. started q (inside q h))
