-- The terms that two elements leave are those that a term of each have in common.
use Rattle.std.proofs.Common.{◌≡◌, ℕ, zero, suc, ◌<◌, inl, inr, List, [], ◌∷◌, ◌++◌, Bool, true, false, ◌||◌, cond, Result, Ok, Err, Option, Some, None, refl, sym, ap, subst, ◌∙◌, arith, length, get_or}
use Rattle.std.specs.List.{All, Contains, list_any}
use Rattle.std.proofs.lemmas.List.Elements.{All-push, Contains-append_right, All-nil}
use Rattle.interface_opening.specs.Elements.{Term}
use Rattle.interface_opening.specs.Terms.{common, with_term, meet_one, meet_lists, ◌>>=◌}
use Rattle.interface_opening.specs.Meeting.{IsCommon, IsMeeting}
use Rattle.interface_opening.proofs.OpenedLaws.{or_later, any_last}

-- what succeeds in two steps
bound : {F X Y : Type 0} (r : Result X F) (f : X → Result Y F) (y : Y) → (r >>= f) ≡ Ok y → (x : X) × (r ≡ Ok x) × (f x ≡ Ok y)
bound (Ok x) f y e = (x, refl, e)
bound (Err d) f y e = absurd cc

module _ {T F : Type 0} (same_term : Term T → Term T → Bool) (covered : Term T → Term T → Result Bool F) (reflexive : (a : Term T) → same_term a a ≡ true) where
  abbrev done : {X : Type 0} → X → Result X F
  done x = Ok x

  abbrev Found : List (Term T) → Term T → Type 0
  Found found z = list_any (same_term z) found ≡ true

  -- ---- two terms

  abbrev second : Term T → Bool → Result (Option (Term T)) F
  second y over = Ok (cond over (Some y) None)

  abbrev first : Term T → Term T → Bool → Result (Option (Term T)) F
  first x y under = cond under (Ok (Some x)) (covered y x >>= second y)

  by_second : (x y z : Term T) → covered x y ≡ Ok false → (r : Result Bool F) → covered y x ≡ r → (r >>= second y) ≡ Ok (Some z) → IsCommon covered x y z
  by_second x y z no_under (Ok true) e is = inr (no_under, e, cc)
  by_second x y z no_under (Ok false) e is = absurd cc
  by_second x y z no_under (Err f) e is = absurd cc

  by_first : (x y z : Term T) → (r : Result Bool F) → covered x y ≡ r → (r >>= first x y) ≡ Ok (Some z) → IsCommon covered x y z
  by_first x y z (Ok true) e is = inl (e, cc)
  by_first x y z (Ok false) e is = by_second x y z e (covered y x) refl is
  by_first x y z (Err f) e is = absurd cc

  common_is : (x y z : Term T) → common same_term covered x y ≡ Ok (Some z) → IsCommon covered x y z
  common_is x y z e = by_first x y z (covered x y) refl e

  is_common : (x y z : Term T) → IsCommon covered x y z → common same_term covered x y ≡ Ok (Some z)
  is_common x y z (inl (under, is)) = rw (under, is) refl
  is_common x y z (inr (under, over, is)) = rw (under, over, is) refl

  found_is : (a b : List (Term T)) → done a ≡ done b → a ≡ b
  found_is a b e = cc

  common_of : (a b : Option (Term T)) → done a ≡ done b → a ≡ b
  common_of a b e = cc

  -- ---- a list that grows

  keeps : (z : Term T) (xs ys : List (Term T)) → Found xs z → Found (xs ++ ys) z
  keeps z [] ys there = absurd cc
  keeps z (x ∷ xs) ys there = by_head (keeps z xs ys) (same_term z x) there
    where
      by_head : (Found xs z → Found (xs ++ ys) z) → (b : Bool) → (b || list_any (same_term z) xs) ≡ true → (b || list_any (same_term z) (xs ++ ys)) ≡ true
      by_head later true e = refl
      by_head later false e = later e

  grows : (z : Term T) (found : List (Term T)) (w : Option (Term T)) → Found found z → Found (with_term same_term covered found w) z
  grows z found None there = there
  grows z found (Some w) there = by_test (list_any (same_term w) found)
    where
      by_test : (b : Bool) → Found (cond b found (found ++ w ∷ [])) z
      by_test true = there
      by_test false = keeps z found (w ∷ []) there

  is_added : (z : Term T) (found : List (Term T)) → Found (with_term same_term covered found (Some z)) z
  is_added z found = by_test (list_any (same_term z) found) refl
    where
      by_test : (b : Bool) → list_any (same_term z) found ≡ b → Found (cond b found (found ++ z ∷ [])) z
      by_test true e = e
      by_test false e = any_last (same_term z) found z ∙ or_later (list_any (same_term z) found) (same_term z z) (reflexive z)

  one_grows : (z x : Term T) (ys found zs : List (Term T)) → Found found z → meet_one same_term covered x ys found ≡ Ok zs → Found zs z
  one_grows z x [] found zs there e = subst (λ (all : List (Term T)). Found all z) (found_is found zs e) there
  one_grows z x (y ∷ ys) found zs there e =
      let step = bound (common same_term covered x y) (λ w. meet_one same_term covered x ys (with_term same_term covered found w)) zs e in
      one_grows z x ys (with_term same_term covered found step.0) zs (grows z found step.0 there) step.2

  lists_grow : (z : Term T) (xs ys found zs : List (Term T)) → Found found z → meet_lists same_term covered xs ys found ≡ Ok zs → Found zs z
  lists_grow z [] ys found zs there e = subst (λ (all : List (Term T)). Found all z) (found_is found zs e) there
  lists_grow z (x ∷ xs) ys found zs there e =
      let step = bound (meet_one same_term covered x ys found) (meet_lists same_term covered xs ys) zs e in
      lists_grow z xs ys step.0 zs (one_grows z x ys found step.0 there step.1) step.2

  -- ---- all that they have in common

  one_finds : (z x y : Term T) → IsCommon covered x y z → (ys found zs : List (Term T)) (k : ℕ) → k < length ys → get_or ys k y ≡ y → meet_one same_term covered x ys found ≡ Ok zs → Found zs z
  one_finds z x y is [] found zs k below at e = absurd (omega (arith, below))
  one_finds z x y is (w ∷ ys) found zs zero below at e =
      let step = bound (common same_term covered x w) (λ v. meet_one same_term covered x ys (with_term same_term covered found v)) zs e in
      let here : common same_term covered x w ≡ Ok (Some z) = subst (λ (v : Term T). common same_term covered x v ≡ Ok (Some z)) (sym at) (is_common x y z is) in
      let got : step.0 ≡ Some z = common_of step.0 (Some z) (sym step.1 ∙ here) in
      one_grows z x ys (with_term same_term covered found step.0) zs (subst (λ (v : Option (Term T)). Found (with_term same_term covered found v) z) (sym got) (is_added z found)) step.2
  one_finds z x y is (w ∷ ys) found zs (suc k) below at e =
      let step = bound (common same_term covered x w) (λ v. meet_one same_term covered x ys (with_term same_term covered found v)) zs e in
      one_finds z x y is ys (with_term same_term covered found step.0) zs k (omega (arith, below)) at step.2

  lists_find : (z x y : Term T) → IsCommon covered x y z → (xs ys found zs : List (Term T)) → Contains ys y → (k : ℕ) → k < length xs → get_or xs k x ≡ x
      → meet_lists same_term covered xs ys found ≡ Ok zs → Found zs z
  lists_find z x y is [] ys found zs has k below at e = absurd (omega (arith, below))
  lists_find z x y is (w ∷ xs) ys found zs has zero below at e =
      let step = bound (meet_one same_term covered w ys found) (meet_lists same_term covered xs ys) zs e in
      let mine : meet_one same_term covered x ys found ≡ Ok step.0 = subst (λ (v : Term T). meet_one same_term covered v ys found ≡ Ok step.0) at step.1 in
      lists_grow z xs ys step.0 zs (one_finds z x y is ys found step.0 has.0 has.1 has.2 mine) step.2
  lists_find z x y is (w ∷ xs) ys found zs has (suc k) below at e =
      let step = bound (meet_one same_term covered w ys found) (meet_lists same_term covered xs ys) zs e in
      lists_find z x y is xs ys step.0 zs has k (omega (arith, below)) at step.2

  pub finds_all : (xs ys zs : List (Term T)) → meet_lists same_term covered xs ys [] ≡ Ok zs → (z : Term T) → IsMeeting covered xs ys z → Found zs z
  finds_all xs ys zs e z m = lists_find z m.left m.right m.common xs ys [] zs m.in_right m.in_left.0 m.in_left.1 m.in_left.2 e

  -- ---- and no other

  module _ (Good : Term T → Type 0) where
    added : (found : List (Term T)) (w : Option (Term T)) → ((z : Term T) → w ≡ Some z → Good z) → All Good found → All Good (with_term same_term covered found w)
    added found None good all = all
    added found (Some w) good all = by_test (list_any (same_term w) found)
      where
        by_test : (b : Bool) → All Good (cond b found (found ++ w ∷ []))
        by_test true = all
        by_test false = All-push Good found w all (good w refl)

    one_good : (x : Term T) (ys found zs : List (Term T)) → ((y z : Term T) → Contains ys y → IsCommon covered x y z → Good z) → All Good found → meet_one same_term covered x ys found ≡ Ok zs → All Good zs
    one_good x [] found zs good all e = subst (All Good) (found_is found zs e) all
    one_good x (y ∷ ys) found zs good all e =
        let step = bound (common same_term covered x y) (λ w. meet_one same_term covered x ys (with_term same_term covered found w)) zs e in
        let here : (z : Term T) → step.0 ≡ Some z → Good z = λ z is. good y z (0, omega arith, refl) (common_is x y z (step.1 ∙ ap (λ (w : Option (Term T)). Ok w) is)) in
        one_good x ys (with_term same_term covered found step.0) zs (λ v z has is. good v z (Contains-append_right (y ∷ []) ys v has) is) (added found step.0 here all) step.2

    lists_good : (xs ys found zs : List (Term T)) → ((x y z : Term T) → Contains xs x → Contains ys y → IsCommon covered x y z → Good z) → All Good found → meet_lists same_term covered xs ys found ≡ Ok zs → All Good zs
    lists_good [] ys found zs good all e = subst (All Good) (found_is found zs e) all
    lists_good (x ∷ xs) ys found zs good all e =
        let step = bound (meet_one same_term covered x ys found) (meet_lists same_term covered xs ys) zs e in
        lists_good xs ys step.0 zs (λ w y z has there is. good w y z (Contains-append_right (x ∷ []) xs w has) there is)
        (one_good x ys found step.0 (λ y z has is. good x y z (0, omega arith, refl) has is) all step.1) step.2

  pub finds_only : (xs ys zs : List (Term T)) → meet_lists same_term covered xs ys [] ≡ Ok zs → All (IsMeeting covered xs ys) zs
  finds_only xs ys zs e =
      lists_good (IsMeeting covered xs ys) xs ys [] zs (λ x y z left right is. record { left = x; right = y; in_left = left; in_right = right; common = is }) (All-nil (IsMeeting covered xs ys)) e
