-- A tree is larger than each of its parts.
use Rattle.std.proofs.Common.{◌≡◌, ℕ, ◌+◌, ◌<◌, ◌≤◌, List, [], ◌∷◌, ◌++◌, length, get_or, refl, ap, arith, suc, zero}
use Rattle.std.specs.List.{flat_map, Contains, sum_by}
use Rattle.std.proofs.lemmas.List.Sums.{sum_by-append, sum_by-cons}
use Rattle.type_terms.specs.Shapes.{param_types, field_types, method_types, term_types}
use Rattle.type_terms.specs.Trees.{Tree, predeclared, named, parameter, alias, pointer, slice, array, chan, map_type}
use Rattle.type_terms.specs.Trees.{func, struct, interface, instance, union, Trees, no_types, types, Params, no_params}
use Rattle.type_terms.specs.Trees.{params, Fields, no_fields, fields, Methods, no_methods, methods, Terms, no_terms}
use Rattle.type_terms.specs.Trees.{terms, type_list, param_list, field_list, method_list, term_list}
use Rattle.type_terms.specs.Parts.{parts, Within, itself, inside, tree_size, types_size, params_size, fields_size}
use Rattle.type_terms.specs.Parts.{methods_size, terms_size}

sum_of_types : (xs : Trees) → types_size xs ≡ sum_by tree_size (type_list xs)
sum_of_types no_types = refl
sum_of_types (types type rest) = omega (arith, sum_of_types rest, sum_by-cons tree_size type (type_list rest))

sum_of_params : (xs : Params) → params_size xs ≡ sum_by tree_size (flat_map param_types (param_list xs))
sum_of_params no_params = refl
sum_of_params (params pos name type rest) = omega
    (arith, sum_of_params rest, sum_by-cons tree_size type (flat_map param_types (param_list rest)))

sum_of_fields : (xs : Fields) → fields_size xs ≡ sum_by tree_size (flat_map field_types (field_list xs))
sum_of_fields no_fields = refl
sum_of_fields (fields origin pos name type embedded tag rest) = omega
    (arith, sum_of_fields rest, sum_by-cons tree_size type (flat_map field_types (field_list rest)))

sum_of_terms : (xs : Terms) → terms_size xs ≡ sum_by tree_size (flat_map term_types (term_list xs))
sum_of_terms no_terms = refl
sum_of_terms (terms tilde type rest) = omega
    (arith, sum_of_terms rest, sum_by-cons tree_size type (flat_map term_types (term_list rest)))

sum_of_sig : (ins outs : Params)
    → params_size ins + params_size outs
    ≡ sum_by tree_size (flat_map param_types (param_list ins) ++ flat_map param_types (param_list outs))
sum_of_sig ins outs =
    omega (
      arith,
      sum_of_params ins,
      sum_of_params outs,
      sum_by-append tree_size
          (flat_map param_types (param_list ins)) (flat_map param_types (param_list outs)),
    )

sum_of_methods : (xs : Methods) → methods_size xs ≡ sum_by tree_size (flat_map method_types (method_list xs))
sum_of_methods no_methods = refl
sum_of_methods (methods origin pos name ins outs variadic rest) =
    omega (
      arith,
      sum_of_sig ins outs,
      sum_of_methods rest,
      sum_by-append tree_size
          (flat_map param_types (param_list ins) ++ flat_map param_types (param_list outs))
          (flat_map method_types (method_list rest)),
    )

-- a tree counts itself and what its parts count
pub size_of_parts : (tree : Tree) → tree_size tree ≡ 1 + sum_by tree_size (parts tree)
size_of_parts (predeclared basic) = omega arith
size_of_parts (named q) = omega arith
size_of_parts (parameter q) = omega arith
size_of_parts (alias q) = omega arith
size_of_parts (pointer type) = omega arith
size_of_parts (slice type) = omega arith
size_of_parts (array size type) = omega arith
size_of_parts (chan dir type) = omega arith
size_of_parts (map_type key type) = omega arith
size_of_parts (func home ins outs variadic) = omega (arith, sum_of_sig ins outs)
size_of_parts (struct home inner) = omega (arith, sum_of_fields inner)
size_of_parts (interface home embedded inner) =
    omega (
      arith,
      sum_of_types embedded,
      sum_of_methods inner,
      sum_by-append tree_size (type_list embedded)
          (flat_map method_types (method_list inner)),
    )
size_of_parts (instance base args) =
    omega (arith, sum_of_types args, sum_by-append tree_size (type_list args) (base ∷ []))
size_of_parts (union inner) = omega (arith, sum_of_terms inner)

summand : {X : Type 0} (f : X → ℕ) (xs : List X) (k : ℕ) (d : X) → k < length xs → f (get_or xs k d) ≤ sum_by f xs
summand f [] k d h = absurd (omega arith)
summand f (x ∷ xs) zero d h = omega (arith, sum_by-cons f x xs)
summand f (x ∷ xs) (suc k) d h = let below : k
    < length xs = omega arith in omega (arith, summand f xs k d below, sum_by-cons f x xs)

pub part_falls : (tree part : Tree) → Contains (parts tree) part → tree_size part < tree_size tree
part_falls tree part (k, within, is) =
    let bound = summand tree_size (parts tree) k part within in
    let same : tree_size (get_or (parts tree) k part) ≡ tree_size part = ap tree_size is in
    omega (arith, size_of_parts tree)

pub within_falls : (tree below : Tree) → Within tree below → tree_size below ≤ tree_size tree
within_falls _ _ (itself tree) = omega arith
within_falls _ _ (inside tree part below held rest) = omega
    (arith, part_falls tree part held, within_falls part below rest)

-- what stands in a part of a tree stands in the tree
pub within_within : (tree part below : Tree) → Within tree part → Within part below → Within tree below
within_within _ _ below (itself tree) rest = rest
within_within _ _ below (inside tree next part held inner) rest = inside tree next below held
    (within_within next part below inner rest)
