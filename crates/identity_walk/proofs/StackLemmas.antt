-- A stack of visits, as the list of those that are due.
use Rattle.std.specs.Prelude.{OnOk, is_err}
use Rattle.std.proofs.Common.{◌≡◌, false, Result, Ok, Err, ℕ, zero, suc, List, [], ◌∷◌, ◌++◌, length, map, reverse, drop, slice_get, Some, refl, ap, ◌∙◌}
use Rattle.std.proofs.lemmas.List.{reverse-append, map-append}
use Rattle.pair_walk.specs.Walk.{Visit as VisitOf, visits}
use Rattle.type_demands.specs.declared.demands.Pair.{Pair}
use Rattle.identity_walk.specs.declared.visits.Visit.{Visit}
use Rattle.identity_walk.specs.Walking.{visit_of, due_of}

-- the visit that was pushed last is due first
pub due_pushed : (stack : List Visit) (x : Visit) → due_of (stack ++ x ∷ []) ≡ visit_of x ∷ due_of stack
due_pushed stack x = ap reverse (map-append visit_of stack (x ∷ [])) ∙ reverse-append (map visit_of stack) (visit_of x ∷ [])

drop_next : (xs : List Pair) (k : ℕ) (x : Pair) → slice_get xs k ≡ Some x → drop k xs ≡ x ∷ drop (suc k) xs
drop_next [] k x is = absurd cc
drop_next (y ∷ xs) zero x is = let same : y ≡ x = cc in ap (λ z. z ∷ xs) same
drop_next (y ∷ xs) (suc k) x is = drop_next xs k x is

drop_all : (xs : List Pair) → drop (length xs) xs ≡ []
drop_all [] = refl
drop_all (x ∷ xs) = drop_all xs

module _ (depth : ℕ) (pairs : List Pair) where
  abbrev pub left_from : ℕ → List (VisitOf Pair)
  left_from k = visits depth (drop k pairs)

  pub none_left : left_from (length pairs) ≡ []
  none_left = ap (visits depth) (drop_all pairs)

  pub one_more : (k : ℕ) (x : Pair) → slice_get pairs k ≡ Some x → left_from k ≡ record { pair = x; depth = depth } ∷ left_from (suc k)
  one_more k x is = ap (visits depth) (drop_next pairs k x is)

-- what holds of a call that was well
pub on_ok : {X E : Type 0} (r : Result X E) (P : Type 0) → is_err r ≡ false → OnOk r P → P
on_ok (Ok x) P fine holds = holds
on_ok (Err e) P fine holds = absurd cc
