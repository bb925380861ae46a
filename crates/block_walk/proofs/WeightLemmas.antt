-- Entering a type makes what is left lighter.
use Rattle.std.proofs.Common.{◌≡◌, ◌+◌, ◌<◌, Bool, true, false, cond, List, [], ◌∷◌, ◌++◌, length, refl, ap, ◌∙◌, arith, length-append}
use Rattle.std.specs.Prelude.{sum_by}
use Rattle.std.proofs.lemmas.List.Sums.{sum_by-cons}
use Rattle.position_codec.specs.Place.{Place, place_of, no_place}
use Rattle.type_terms.specs.Parts.{parts, tree_size}
use Rattle.type_terms.specs.TreeSizes.{size_of_parts}
use Rattle.type_terms.specs.Trees.{Tree, level_of}
use Rattle.file_layout.specs.Items.{Item, a_number, a_flag, a_text, a_path, a_position, a_type, a_whole, level_items}
use Rattle.file_layout.specs.Bytes.{same_file}
use Rattle.file_layout.specs.Walk.{says, ends, is_made, items_events, walk}
use Rattle.file_layout.proofs.ItemTypes.{items_types, level_types}
use Rattle.block_walk.specs.Steps.{Step, say, finish, items_steps, type_steps}
use Rattle.block_walk.specs.Weights.{steps_weight}
use Rattle.block_walk.proofs.BoundLemmas.{walk_unfolds}

pub weight_both : (xs ys : List Step) → steps_weight (xs ++ ys) ≡ steps_weight xs + steps_weight ys
weight_both [] ys = omega arith
weight_both (x ∷ xs) ys = omega (arith, weight_both xs ys)

items_weight : (before : Place) (xs : List Item) → steps_weight (items_steps before xs) ≡ length (items_events walk before xs) + sum_by tree_size (items_types xs)
items_weight before [] = refl
items_weight before (a_number n ∷ xs) = items_weight before xs
items_weight before (a_flag x ∷ xs) = items_weight before xs
items_weight before (a_text text ∷ xs) = omega (arith, items_weight before xs)
items_weight before (a_path path ∷ xs) = omega (arith, items_weight before xs)
items_weight before (a_position pos ∷ xs) = by (same_file before (place_of pos)) (items_weight (place_of pos) xs)
  where
    by : (b : Bool) → steps_weight (items_steps (place_of pos) xs) ≡ length (items_events walk (place_of pos) xs) + sum_by tree_size (items_types xs)
        → steps_weight (cond b [] (say (place_of pos).file ∷ []) ++ items_steps (place_of pos) xs) ≡ length (cond b [] (says (place_of pos).file ∷ []) ++ items_events walk (place_of pos) xs) + sum_by tree_size (items_types xs)
    by true rest = rest
    by false rest = omega (arith, rest)
items_weight before (a_type type ∷ xs) =
    let own : steps_weight (items_steps before (a_type type ∷ xs)) ≡ (length (walk type) + tree_size type) + steps_weight (items_steps before xs) = refl in
    let sizes : sum_by tree_size (items_types (a_type type ∷ xs)) ≡ tree_size type + sum_by tree_size (items_types xs) = sum_by-cons tree_size type (items_types xs) in
    let events : length (items_events walk before (a_type type ∷ xs)) ≡ length (walk type) + length (items_events walk before xs) = length-append (walk type) (items_events walk before xs) in
    omega (arith, own, sizes, events, items_weight before xs)
items_weight before (a_whole signed max v ∷ xs) = items_weight before xs

-- the steps of a descriptor weigh less than meeting it
pub steps_lighter : (type : Tree) → is_made type ≡ true → steps_weight (type_steps type) < length (walk type) + tree_size type
steps_lighter type made =
    let items = level_items (level_of type) in
    let whole : walk type ≡ items_events walk no_place items ++ ends type ∷ [] = walk_unfolds type ∙ ap (λ b. cond b (items_events walk no_place items ++ ends type ∷ []) []) made in
    let count : length (walk type) ≡ length (items_events walk no_place items) + 1 = ap length whole ∙ length-append (items_events walk no_place items) (ends type ∷ []) in
    let sizes : sum_by tree_size (items_types items) ≡ sum_by tree_size (parts type) = ap (sum_by tree_size) (level_types (level_of type)) in
    omega (arith, weight_both (items_steps no_place items) (finish type ∷ []), items_weight no_place items, count, sizes, size_of_parts type)
