-- A loop over a row that looks for the first place.
use Rattle.std.proofs.Common.{◌≡◌, ℕ, suc, ◌<◌, ◌≤◌, ◌+◌, List, [], ◌∷◌, ◌++◌, Option, length, drop, get_or, sym, ap, ◌∙◌, add-one}
use Rattle.source_places.specs.declared.places.Place.{Place}
use Rattle.repeated_names.specs.Firsts.{first_of_two, first}
use Rattle.repeated_names.proofs.FirstLaws.{first_append, first_none, joined_again}
use Rattle.source_walk.proofs.ListedRows.{further, no_more}

-- among so many items of the row this place is the first
pub record Searched {X : Type 0} (rows : ℕ → List X → List Place) (xs : List X) (i : ℕ) (found : Option Place) : Type 0 where
  pub rest : first_of_two found (first (rows i (drop i xs))) ≡ first (rows 0 xs)

pub searched_turn : {X : Type 0} (rows : ℕ → List X → List Place) (xs : List X) (i : ℕ) (found after : Option Place) (x d : X) (part : List Place)
    → Searched rows xs i found → i < length xs → x ≡ get_or xs i d → ((ys : List X) → rows i (x ∷ ys) ≡ part ++ rows (suc i) ys) → after ≡ first_of_two found (first part)
    → Searched rows xs (i + 1) after
searched_turn rows xs i found after x d part going inside item row step =
    let split = further rows xs i x d part inside item row in
    let rest = rows (suc i) (drop (suc i) xs) in
    record {
      rest = rw add-one (ap (λ a. first_of_two a (first rest)) step ∙ joined_again found (first part) (first rest)
          ∙ ap (first_of_two found) (sym (first_append part rest) ∙ ap first (sym split)) ∙ going.rest);
    }

pub searched_end : {X : Type 0} (rows : ℕ → List X → List Place) (xs : List X) (i : ℕ) (found : Option Place)
    → Searched rows xs i found → length xs ≤ i → rows i [] ≡ [] → found ≡ first (rows 0 xs)
searched_end rows xs i found going past none = sym (first_none found) ∙ ap (λ k. first_of_two found (first k)) (sym (no_more rows xs i past none)) ∙ going.rest
