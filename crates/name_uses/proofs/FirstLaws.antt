-- A loop over a row that looks for the first place.
use Rattle.std.proofs.Common.{◌≡◌, ℕ, suc, ◌<◌, ◌≤◌, ◌+◌, List, [], ◌∷◌, ◌++◌, Option, None, map, flat_map, length, drop, get_or, refl, sym, ap, ◌∙◌, add-one}
use Rattle.std.proofs.lemmas.List.{map-append}
use Rattle.source_places.specs.declared.places.Place.{Place}
use Rattle.source_places.specs.declared.places.Found.{Found}
use Rattle.source_places.specs.Places.{earlier, least}
use Rattle.source_places.proofs.LeastLaws.{earlier_none, earlier_assoc, least_append}
use Rattle.source_walk.proofs.ListedRows.{further, no_more}

-- among so many items of the row this place is the first
pub record Searched {X C : Type 0} (rows : ℕ → List X → List (Found C)) (xs : List X) (i : ℕ) (found : Option (Found C)) : Type 0 where
  pub rest : earlier found (least (rows i (drop i xs))) ≡ least (rows 0 xs)

pub searched_turn : {X C : Type 0} (rows : ℕ → List X → List (Found C)) (xs : List X) (i : ℕ) (found after : Option (Found C)) (x d : X) (part : List (Found C))
    → Searched rows xs i found → i < length xs → x ≡ get_or xs i d → ((ys : List X) → rows i (x ∷ ys) ≡ part ++ rows (suc i) ys) → after ≡ earlier found (least part)
    → Searched rows xs (i + 1) after
searched_turn rows xs i found after x d part going inside item row step =
    let split = further rows xs i x d part inside item row in
    let rest = rows (suc i) (drop (suc i) xs) in
    record {
      rest = rw add-one (ap (λ a. earlier a (least rest)) step ∙ earlier_assoc found (least part) (least rest)
          ∙ ap (earlier found) (sym (least_append part rest) ∙ ap least (sym split)) ∙ going.rest);
    }

pub searched_end : {X C : Type 0} (rows : ℕ → List X → List (Found C)) (xs : List X) (i : ℕ) (found : Option (Found C))
    → Searched rows xs i found → length xs ≤ i → rows i [] ≡ [] → found ≡ least (rows 0 xs)
searched_end rows xs i found going past none = sym (earlier_none found) ∙ ap (λ k. earlier found (least k)) (sym (no_more rows xs i past none)) ∙ going.rest
