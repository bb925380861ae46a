-- Going through types that aren't settled does what the whole walk does.
use Rattle.std.proofs.Common.{◌≡◌, ℕ, zero, suc, ◌≤◌, Bool, true, false, cond, List, [], ◌∷◌, ◌++◌, refl, ap, sym, subst, ◌∙◌, ◌⊎◌, inl, inr, arith}
use Rattle.std.specs.Prelude.{not, ◌||◌}
use Rattle.std.specs.List.{AllByRecursion}
use Rattle.position_codec.specs.Place.{Place, place_of, no_place}
use Rattle.type_terms.specs.Parts.{tree_size}
use Rattle.type_terms.specs.Replaced.{all_append}
use Rattle.type_terms.specs.TreeSizes.{size_of_parts}
use Rattle.type_terms.specs.Trees.{Text, Tree, level_of}
use Rattle.file_layout.specs.Items.{Item, a_number, a_flag, a_text, a_path, a_position, a_type, a_whole, level_items}
use Rattle.file_layout.specs.Bytes.{same_file}
use Rattle.file_layout.specs.Walk.{Event, says, tells, ends, is_made, items_events, walk}
use Rattle.file_layout.specs.Places.{is_placed}
use Rattle.file_layout.proofs.ItemTypes.{items_types}
use Rattle.block_walk.specs.Steps.{say, finish, items_steps, type_steps}
use Rattle.block_walk.specs.Going.{Out, with_event, with_events, with_steps, finished, gone, went, after, IsKnown, IsClosed}
use Rattle.block_walk.proofs.KnownLemmas.{More, no_more, more_again, event_more, event_known, all_known_more, all_known_same, happen_cases, finished_same}
use Rattle.block_walk.proofs.BoundLemmas.{smaller, walk_unfolds, with_both}

module _ (own : Text) (offset : Text → ℕ) where
  events_both : (out : Out) (xs ys : List Event) → with_events own offset out (xs ++ ys) ≡ with_events own offset (with_events own offset out xs) ys
  events_both out [] ys = refl
  events_both out (x ∷ xs) ys = events_both (with_event own offset out x) xs ys

  -- what some events come to, where all of it is known afterwards
  pub record Reached (old new : Out) (es : List Event) : Type 0 where
    pub is : new ≡ with_events own offset old es
    pub more : More own offset old new
    pub closed : IsClosed own offset new
    pub known : AllByRecursion (IsKnown own offset new) es

  nothing_reached : (out : Out) → IsClosed own offset out → Reached out out []
  nothing_reached out closed = record { is = refl; more = no_more own offset out; closed = closed; known = tt }

  then_reached : {a b c : Out} {xs ys : List Event} → Reached a b xs → Reached b c ys → Reached a c (xs ++ ys)
  then_reached {a} {b} {c} {xs} {ys} first second = record {
    is = second.is ∙ ap (λ o. with_events own offset o ys) first.is ∙ sym (events_both a xs ys);
    more = more_again own offset first.more second.more;
    closed = second.closed;
    known = all_append (IsKnown own offset c) xs ys (all_known_more own offset b c second.more xs first.known) second.known;
  }

  -- a mention places nothing
  closed_later : (old new : Out) → More own offset old new → ((t : Tree) → is_placed new.written.blocks t ≡ true → is_placed old.written.blocks t ≡ true) → IsClosed own offset old → IsClosed own offset new
  closed_later old new more back closed type placed = all_known_more own offset old new more (walk type) (closed type (back type placed))

  says_reached : (out : Out) (text : Text) → IsClosed own offset out → Reached out (with_event own offset out (says text)) (says text ∷ [])
  says_reached out text closed = record {
    is = refl;
    more = event_more own offset out (says text);
    closed = closed_later out (with_event own offset out (says text)) (event_more own offset out (says text)) (λ t e. e) closed;
    known = (event_known own offset out (says text), tt);
  }

  tells_reached : (out : Out) (path : Text) → IsClosed own offset out → Reached out (with_event own offset out (tells path)) (tells path ∷ [])
  tells_reached out path closed = record {
    is = refl;
    more = event_more own offset out (tells path);
    closed = closed_later out (with_event own offset out (tells path)) (event_more own offset out (tells path)) (λ t e. e) closed;
    known = (event_known own offset out (tells path), tt);
  }

  -- a way to go through the types of which something holds
  abbrev Goes : (Out → Tree → Out) → (Tree → Type 0) → Type 0
  Goes go P = (type : Tree) (out : Out) → P type → IsClosed own offset out → Reached out (go out type) (walk type)

  items_reached : (go : Out → Tree → Out) (P : Tree → Type 0) → Goes go P → (before : Place) (xs : List Item) (out : Out) → AllByRecursion P (items_types xs) → IsClosed own offset out
      → Reached out (with_steps own offset go out (items_steps before xs)) (items_events walk before xs)
  items_reached go P goes before [] out all closed = nothing_reached out closed
  items_reached go P goes before (a_number n ∷ xs) out all closed = items_reached go P goes before xs out all closed
  items_reached go P goes before (a_flag x ∷ xs) out all closed = items_reached go P goes before xs out all closed
  items_reached go P goes before (a_text text ∷ xs) out all closed =
      let first = says_reached out text closed in
      then_reached first (items_reached go P goes before xs (with_event own offset out (says text)) all first.closed)
  items_reached go P goes before (a_path path ∷ xs) out all closed =
      let first = tells_reached out path closed in
      then_reached first (items_reached go P goes before xs (with_event own offset out (tells path)) all first.closed)
  items_reached go P goes before (a_position pos ∷ xs) out all closed =
      let file = (place_of pos).file in
      let first = says_reached out file closed in
      by (same_file before (place_of pos)) (items_reached go P goes (place_of pos) xs out all closed)
      (then_reached first (items_reached go P goes (place_of pos) xs (with_event own offset out (says file)) all first.closed))
    where
      by : (b : Bool) → Reached out (with_steps own offset go out (items_steps (place_of pos) xs)) (items_events walk (place_of pos) xs)
          → Reached out (with_steps own offset go (with_event own offset out (says (place_of pos).file)) (items_steps (place_of pos) xs)) ((says (place_of pos).file ∷ []) ++ items_events walk (place_of pos) xs)
          → Reached out (with_steps own offset go out (cond b [] (say (place_of pos).file ∷ []) ++ items_steps (place_of pos) xs)) (cond b [] (says (place_of pos).file ∷ []) ++ items_events walk (place_of pos) xs)
      by true same other = same
      by false same other = other
  items_reached go P goes before (a_type type ∷ xs) out all closed =
      let first = goes type out all.0 closed in
      then_reached first (items_reached go P goes before xs (go out type) all.1 first.closed)
  items_reached go P goes before (a_whole signed max v ∷ xs) out all closed = items_reached go P goes before xs out all closed

  -- a type that is placed behind its parts
  ends_reached : (first out : Out) (type : Tree) (es : List Event) → walk type ≡ es ++ ends type ∷ [] → Reached first out es → Reached first (with_event own offset out (ends type)) (es ++ ends type ∷ [])
  ends_reached first out type es walked was =
      let new = with_event own offset out (ends type) in
      let more = event_more own offset out (ends type) in
      let last : AllByRecursion (IsKnown own offset new) (ends type ∷ []) = (event_known own offset out (ends type), tt) in
      let known = all_append (IsKnown own offset new) es (ends type ∷ []) (all_known_more own offset out new more es was.known) last in
      record {
        is = ap (λ o. with_event own offset o (ends type)) was.is ∙ sym (events_both first es (ends type ∷ []));
        more = more_again own offset was.more more;
        closed = λ other placed. by other (happen_cases own offset out.written type other placed) known;
        known = known;
      }
    where
      by : (other : Tree) → (is_placed out.written.blocks other ≡ true) ⊎ (other ≡ type) → AllByRecursion (IsKnown own offset (with_event own offset out (ends type))) (es ++ ends type ∷ [])
          → AllByRecursion (IsKnown own offset (with_event own offset out (ends type))) (walk other)
      by other (inl old) known = all_known_more own offset out (with_event own offset out (ends type)) (event_more own offset out (ends type)) (walk other) (was.closed other old)
      by other (inr same) known = subst (λ t. AllByRecursion (IsKnown own offset (with_event own offset out (ends type))) (walk t)) (sym same) (subst (AllByRecursion (IsKnown own offset (with_event own offset out (ends type)))) (sym walked) known)

  gone_reached : (n : ℕ) → Goes (gone own offset n) (λ t. tree_size t ≤ n)
  gone_reached zero type out small closed = absurd (omega (arith, small, size_of_parts type))
  gone_reached (suc n) type out small closed = by (is_made type) (is_placed out.written.blocks type) refl refl (gone_reached n)
    where
      items : List Item
      items = level_items (level_of type)

      by : (made placed : Bool) → is_made type ≡ made → is_placed out.written.blocks type ≡ placed → Goes (gone own offset n) (λ t. tree_size t ≤ n)
          → Reached out (cond (not made || placed) out (with_steps own offset (gone own offset n) out (type_steps type))) (walk type)
      by false placed is there goes =
          let none : walk type ≡ [] = walk_unfolds type ∙ ap (λ b. cond b (items_events walk no_place (level_items (level_of type)) ++ ends type ∷ []) []) is in
          subst (Reached out out) (sym none) (nothing_reached out closed)
      by true true is there goes =
          let known = closed type there in
          record { is = sym (all_known_same own offset out (walk type) known); more = no_more own offset out; closed = closed; known = known }
      by true false is there goes =
          let whole : walk type ≡ items_events walk no_place (level_items (level_of type)) ++ ends type ∷ [] = walk_unfolds type ∙ ap (λ b. cond b (items_events walk no_place (level_items (level_of type)) ++ ends type ∷ []) []) is in
          let steps = items_steps no_place (level_items (level_of type)) in
          let inner = items_reached (gone own offset n) (λ t. tree_size t ≤ n) goes no_place (level_items (level_of type)) out (smaller n type small) closed in
          let ended = ends_reached out (with_steps own offset (gone own offset n) out steps) type (items_events walk no_place (level_items (level_of type))) whole inner in
          let out' = with_steps own offset (gone own offset n) out steps in
          let same : finished own offset out' type ≡ with_event own offset out' (ends type) = finished_same own offset out' type (items_events walk no_place (level_items (level_of type))) whole inner.closed inner.known in
          subst (λ o. Reached out o (walk type)) (sym (with_both own offset (gone own offset n) out steps (finish type ∷ []) ∙ same))
          (subst (Reached out (with_event own offset out' (ends type))) (sym whole) ended)

  went_reached : Goes (went own offset) (λ t. Unit {0})
  went_reached type out all closed = gone_reached (tree_size type) type out (omega arith) closed

  all_any : (xs : List Tree) → AllByRecursion (λ (t : Tree). Unit {0}) xs
  all_any [] = tt
  all_any (x ∷ xs) = (tt, all_any xs)

  -- what the steps of items come to, and of a declaration
  pub items_after : (before : Place) (xs : List Item) (out : Out) → IsClosed own offset out → Reached out (after own offset out (items_steps before xs)) (items_events walk before xs)
  items_after before xs out closed = items_reached (went own offset) (λ t. Unit {0}) went_reached before xs out (all_any (items_types xs)) closed
