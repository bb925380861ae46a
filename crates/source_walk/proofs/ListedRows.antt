-- A loop over a row that makes a list of what its items give.
use Rattle.std.proofs.Common.{◌≡◌, ℕ, suc, ◌<◌, ◌≤◌, ◌+◌, List, [], ◌∷◌, ◌++◌, length, drop, get_or, sym, ap, ◌∙◌, add-one, drop-cons}
use Rattle.std.proofs.Math.ListN.{drop_of_length-le}
use Rattle.std.proofs.lemmas.List.{append_assoc, append-nil}

module _ {X Y : Type 0} (rows : ℕ → List X → List Y) (xs : List X) (i : ℕ) where
  -- the rest of a row, one item further
  pub further : (x d : X) (part : List Y) → i < length xs → x ≡ get_or xs i d → ((ys : List X) → rows i (x ∷ ys) ≡ part ++ rows (suc i) ys)
      → rows i (drop i xs) ≡ part ++ rows (suc i) (drop (suc i) xs)
  further x d part inside item row = ap (rows i) (drop-cons xs i d inside ∙ ap (λ y. y ∷ drop (suc i) xs) (sym item)) ∙ row (drop (suc i) xs)

  pub no_more : length xs ≤ i → rows i [] ≡ [] → rows i (drop i xs) ≡ []
  no_more past none = ap (rows i) (drop_of_length-le xs past) ∙ none

-- so many items of the row were taken into a list
pub record Listed {X Y : Type 0} (rows : ℕ → List X → List Y) (before : List Y) (xs : List X) (i : ℕ) (now : List Y) : Type 0 where
  pub rest : now ++ rows i (drop i xs) ≡ before ++ rows 0 xs

pub listed_turn : {X Y : Type 0} (rows : ℕ → List X → List Y) (before : List Y) (xs : List X) (i : ℕ) (now after : List Y) (x d : X) (part : List Y)
    → Listed rows before xs i now → i < length xs → x ≡ get_or xs i d → ((ys : List X) → rows i (x ∷ ys) ≡ part ++ rows (suc i) ys) → after ≡ now ++ part
    → Listed rows before xs (i + 1) after
listed_turn rows before xs i now after x d part going inside item row step =
    let split = further rows xs i x d part inside item row in
    record { rest = rw add-one (ap (λ a. a ++ rows (suc i) (drop (suc i) xs)) step ∙ append_assoc now part _ ∙ ap (λ k. now ++ k) (sym split) ∙ going.rest) }

pub listed_end : {X Y : Type 0} (rows : ℕ → List X → List Y) (before : List Y) (xs : List X) (i : ℕ) (now : List Y)
    → Listed rows before xs i now → length xs ≤ i → rows i [] ≡ [] → now ≡ before ++ rows 0 xs
listed_end rows before xs i now going past none = sym (append-nil now) ∙ ap (λ k. now ++ k) (sym (no_more rows xs i past none)) ∙ going.rest
