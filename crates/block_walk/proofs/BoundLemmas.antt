-- The bounds on levels don't matter where they are large enough.
use Rattle.std.proofs.Common.{◌≡◌, ℕ, zero, suc, ◌≤◌, ◌+◌, Bool, true, false, cond, List, [], ◌∷◌, ◌++◌, refl, ap, sym, subst, ◌∙◌, arith}
use Rattle.std.specs.Prelude.{sum_by}
use Rattle.std.specs.List.{Contains, AllByRecursion}
use Rattle.std.proofs.lemmas.List.Elements.{Contains-append_right}
use Rattle.position_codec.specs.Place.{Place, place_of, no_place}
use Rattle.type_terms.specs.Parts.{parts, tree_size}
use Rattle.type_terms.specs.TreeSizes.{size_of_parts, part_falls}
use Rattle.type_terms.specs.Trees.{Text, Tree, level_of}
use Rattle.file_layout.specs.Items.{Item, a_number, a_flag, a_text, a_path, a_position, a_type, a_whole, level_items}
use Rattle.file_layout.specs.Bytes.{same_file}
use Rattle.file_layout.specs.Walk.{Event, says, tells, ends, is_made, items_events, type_events, walk}
use Rattle.file_layout.proofs.ItemTypes.{items_types, level_types}
use Rattle.block_walk.specs.Steps.{Step, say, tell, finish, items_steps, type_steps}
use Rattle.block_walk.specs.Going.{Out, with_step, with_steps, is_settled, gone, went, after}

all_parts : (P : Tree → Type 0) (xs : List Tree) → ((x : Tree) → Contains xs x → P x) → AllByRecursion P xs
all_parts P [] each = tt
all_parts P (x ∷ xs) each = (each x (0, omega arith, refl), all_parts P xs (λ y has. each y (Contains-append_right (x ∷ []) xs y has)))

pub all_weaker : {X : Type 0} (P Q : X → Type 0) → ((x : X) → P x → Q x) → (xs : List X) → AllByRecursion P xs → AllByRecursion Q xs
all_weaker P Q step [] all = tt
all_weaker P Q step (x ∷ xs) all = (step x all.0, all_weaker P Q step xs all.1)

-- the types that stand in a descriptor are smaller
pub smaller : (n : ℕ) (type : Tree) → tree_size type ≤ suc n → AllByRecursion (λ t. tree_size t ≤ n) (items_types (level_items (level_of type)))
smaller n type bound =
    subst (AllByRecursion (λ t. tree_size t ≤ n)) (sym (level_types (level_of type)))
    (all_parts (λ t. tree_size t ≤ n) (parts type) (λ part has. omega (arith, part_falls type part has)))

-- ---- the walk

events_agree : (f g : Tree → List Event) (before : Place) (xs : List Item) → AllByRecursion (λ t. f t ≡ g t) (items_types xs) → items_events f before xs ≡ items_events g before xs
events_agree f g before [] all = refl
events_agree f g before (a_number n ∷ xs) all = events_agree f g before xs all
events_agree f g before (a_flag x ∷ xs) all = events_agree f g before xs all
events_agree f g before (a_text text ∷ xs) all = ap (λ es. says text ∷ es) (events_agree f g before xs all)
events_agree f g before (a_path path ∷ xs) all = ap (λ es. tells path ∷ es) (events_agree f g before xs all)
events_agree f g before (a_position pos ∷ xs) all = ap (λ es. cond (same_file before (place_of pos)) [] (says (place_of pos).file ∷ []) ++ es) (events_agree f g (place_of pos) xs all)
events_agree f g before (a_type type ∷ xs) all = λ i. all.0 i ++ events_agree f g before xs all.1 i
events_agree f g before (a_whole signed max v ∷ xs) all = events_agree f g before xs all

enough_events : (n m : ℕ) (type : Tree) → tree_size type ≤ n → tree_size type ≤ m → type_events n type ≡ type_events m type
enough_events zero m type low high = absurd (omega (arith, low, size_of_parts type))
enough_events (suc n) zero type low high = absurd (omega (arith, high, size_of_parts type))
enough_events (suc n) (suc m) type low high =
    let items = level_items (level_of type) in
    let both = both_small n m items (smaller n type low) (smaller m type high) (enough_events n m) in
    ap (λ es. cond (is_made type) (es ++ ends type ∷ []) []) (events_agree (type_events n) (type_events m) no_place items both)
  where
    both_small : (n m : ℕ) (items : List Item) → AllByRecursion (λ t. tree_size t ≤ n) (items_types items) → AllByRecursion (λ t. tree_size t ≤ m) (items_types items)
        → ((t : Tree) → tree_size t ≤ n → tree_size t ≤ m → type_events n t ≡ type_events m t) → AllByRecursion (λ t. type_events n t ≡ type_events m t) (items_types items)
    both_small n m items low high each = joined (items_types items) low high
      where
        joined : (xs : List Tree) → AllByRecursion (λ t. tree_size t ≤ n) xs → AllByRecursion (λ t. tree_size t ≤ m) xs → AllByRecursion (λ t. type_events n t ≡ type_events m t) xs
        joined [] low high = tt
        joined (x ∷ xs) low high = (each x low.0 high.0, joined xs low.1 high.1)

-- by one level: a type's parts, and then the type
pub walk_unfolds : (type : Tree) → walk type ≡ cond (is_made type) (items_events walk no_place (level_items (level_of type)) ++ ends type ∷ []) []
walk_unfolds type = by (tree_size type) refl (size_of_parts type)
  where
    by : (n : ℕ) → tree_size type ≡ n → tree_size type ≡ 1 + sum_by tree_size (parts type) → walk type ≡ cond (is_made type) (items_events walk no_place (level_items (level_of type)) ++ ends type ∷ []) []
    by zero is size = absurd (omega (arith, is, size))
    by (suc n) is size =
        let items = level_items (level_of type) in
        let small = smaller n type (omega (arith, is)) in
        let agree = all_weaker (λ t. tree_size t ≤ n) (λ t. type_events n t ≡ walk t) (λ t low. enough_events n (tree_size t) t low (omega arith)) (items_types items) small in
        ap (λ k. type_events k type) is
        ∙ ap (λ es. cond (is_made type) (es ++ ends type ∷ []) []) (events_agree (type_events n) walk no_place items agree)

-- ---- steps

module _ (own : Text) (offset : Text → ℕ) where
  pub with_both : (go : Out → Tree → Out) (out : Out) (xs ys : List Step) → with_steps own offset go out (xs ++ ys) ≡ with_steps own offset go (with_steps own offset go out xs) ys
  with_both go out [] ys = refl
  with_both go out (x ∷ xs) ys = with_both go (with_step own offset go out x) xs ys

  -- two ways to go that agree on the types of items
  module _ (f g : Out → Tree → Out) where
    items_agree : (before : Place) (xs : List Item) → AllByRecursion (λ t. (out : Out) → f out t ≡ g out t) (items_types xs) → (out : Out) → with_steps own offset f out (items_steps before xs) ≡ with_steps own offset g out (items_steps before xs)
    items_agree before [] all out = refl
    items_agree before (a_number n ∷ xs) all out = items_agree before xs all out
    items_agree before (a_flag x ∷ xs) all out = items_agree before xs all out
    items_agree before (a_text text ∷ xs) all out = items_agree before xs all (with_step own offset f out (say text))
    items_agree before (a_path path ∷ xs) all out = items_agree before xs all (with_step own offset f out (tell path))
    items_agree before (a_position pos ∷ xs) all out = by (same_file before (place_of pos)) (items_agree (place_of pos) xs all)
      where
        by : (b : Bool) → ((o : Out) → with_steps own offset f o (items_steps (place_of pos) xs) ≡ with_steps own offset g o (items_steps (place_of pos) xs)) → with_steps own offset f out (cond b [] (say (place_of pos).file ∷ []) ++ items_steps (place_of pos) xs) ≡ with_steps own offset g out (cond b [] (say (place_of pos).file ∷ []) ++ items_steps (place_of pos) xs)
        by true later = later out
        by false later = later (with_step own offset f out (say (place_of pos).file))
    items_agree before (a_type type ∷ xs) all out = ap (λ o. with_steps own offset f o (items_steps before xs)) (all.0 out) ∙ items_agree before xs all.1 (g out type)
    items_agree before (a_whole signed max v ∷ xs) all out = items_agree before xs all out

    type_agrees : (type : Tree) → AllByRecursion (λ t. (out : Out) → f out t ≡ g out t) (items_types (level_items (level_of type))) → (out : Out) → with_steps own offset f out (type_steps type) ≡ with_steps own offset g out (type_steps type)
    type_agrees type all out =
        let items = items_steps no_place (level_items (level_of type)) in
        with_both f out items (finish type ∷ [])
        ∙ ap (λ o. with_step own offset f o (finish type)) (items_agree no_place (level_items (level_of type)) all out)
        ∙ sym (with_both g out items (finish type ∷ []))

  enough : (n m : ℕ) (type : Tree) → tree_size type ≤ n → tree_size type ≤ m → (out : Out) → gone own offset n out type ≡ gone own offset m out type
  enough zero m type low high out = absurd (omega (arith, low, size_of_parts type))
  enough (suc n) zero type low high out = absurd (omega (arith, high, size_of_parts type))
  enough (suc n) (suc m) type low high out =
      ap (λ o. cond (is_settled own offset out type) out o) (type_agrees (gone own offset n) (gone own offset m) type (joined (items_types (level_items (level_of type))) (smaller n type low) (smaller m type high) (enough n m)) out)
    where
      joined : (xs : List Tree) → AllByRecursion (λ t. tree_size t ≤ n) xs → AllByRecursion (λ t. tree_size t ≤ m) xs → ((t : Tree) → tree_size t ≤ n → tree_size t ≤ m → (out : Out) → gone own offset n out t ≡ gone own offset m out t)
          → AllByRecursion (λ t. (out : Out) → gone own offset n out t ≡ gone own offset m out t) xs
      joined [] low high each = tt
      joined (x ∷ xs) low high each = (each x low.0 high.0, joined xs low.1 high.1 each)

  -- by one level: nothing where the type is settled, and else its steps
  pub went_unfolds : (out : Out) (type : Tree) → went own offset out type ≡ cond (is_settled own offset out type) out (after own offset out (type_steps type))
  went_unfolds out type = by (tree_size type) refl (size_of_parts type)
    where
      by : (n : ℕ) → tree_size type ≡ n → tree_size type ≡ 1 + sum_by tree_size (parts type) → went own offset out type ≡ cond (is_settled own offset out type) out (after own offset out (type_steps type))
      by zero is size = absurd (omega (arith, is, size))
      by (suc n) is size =
          let small = smaller n type (omega (arith, is)) in
          let agree = all_weaker (λ t. tree_size t ≤ n) (λ t. (out : Out) → gone own offset n out t ≡ went own offset out t) (λ t low. enough n (tree_size t) t low (omega arith)) (items_types (level_items (level_of type))) small in
          ap (λ k. gone own offset k out type) is
          ∙ ap (λ o. cond (is_settled own offset out type) out o) (type_agrees (gone own offset n) (went own offset) type agree out)
