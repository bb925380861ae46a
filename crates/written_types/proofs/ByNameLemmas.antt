-- Methods by name are the same methods, sorted, and those of one name as they stood.
use Rattle.std.proofs.Common.{◌≡◌, ℕ, zero, suc, ◌+◌, ◌<◌, List, [], ◌∷◌, length, get_or, Bool, true, false, cond, not, ◌&&◌, refl, sym, ap, subst, ◌∙◌, arith}
use Rattle.std.specs.List.{filter}
use Rattle.std.specs.List.Sorted.{IsPermutation, IsSortedBy, IsStableBy, ties}
use Rattle.std.specs.Cmp.{IsStrictWeakOrder}
use Rattle.std.proofs.lemmas.Cmp.{nat_list_cmp_total}
use Rattle.std.proofs.lemmas.List.Sorted.{IsPermutation-refl, IsPermutation-sym, IsPermutation-trans, IsPermutation-cons, IsPermutation-middle, ranks_by}
use Rattle.written_types.specs.ByName.{Method, is_before, with_method, by_name}

order : IsStrictWeakOrder is_before
order = ranks_by nat_list_cmp_total (λ (x : Method). x.name)

-- ---- the same methods

with_moves : (x : Method) (ys : List Method) → IsPermutation (x ∷ ys) (with_method x ys)
with_moves x [] = IsPermutation-refl (x ∷ [])
with_moves x (y ∷ ys) = by_test (is_before y x) (with_moves x ys)
  where
    by_test : (b : Bool) → IsPermutation (x ∷ ys) (with_method x ys) → IsPermutation (x ∷ y ∷ ys) (cond b (y ∷ with_method x ys) (x ∷ y ∷ ys))
    by_test true rest =
        IsPermutation-trans (x ∷ y ∷ ys) (y ∷ x ∷ ys) (y ∷ with_method x ys) (IsPermutation-sym (y ∷ x ∷ ys) (x ∷ y ∷ ys) (IsPermutation-middle (y ∷ []) x ys))
        (IsPermutation-cons y (x ∷ ys) (with_method x ys) rest)
    by_test false rest = IsPermutation-refl (x ∷ y ∷ ys)

pub all_methods : (xs : List Method) → IsPermutation xs (by_name xs)
all_methods [] = IsPermutation-refl []
all_methods (x ∷ xs) = IsPermutation-trans (x ∷ xs) (x ∷ by_name xs) (by_name (x ∷ xs)) (IsPermutation-cons x xs (by_name xs) (all_methods xs)) (with_moves x (by_name xs))

-- ---- sorted

-- none is before the one in front of it
abbrev Behind : Method → List Method → Type 0
Behind x [] = Unit {0}
Behind x (y ∷ ys) = (is_before y x ≡ false) × Behind y ys

abbrev Up : List Method → Type 0
Up [] = Unit {0}
Up (x ∷ xs) = Behind x xs

with_behind : (first x : Method) (ys : List Method) → is_before x first ≡ false → Behind first ys → Behind first (with_method x ys)
with_behind first x [] low up = (low, tt)
with_behind first x (y ∷ ys) low up = by_test (is_before y x) refl (λ e. with_behind y x ys (order.one_way y x e) up.1)
  where
    by_test : (b : Bool) → is_before y x ≡ b → (is_before y x ≡ true → Behind y (with_method x ys)) → Behind first (cond b (y ∷ with_method x ys) (x ∷ y ∷ ys))
    by_test true e rest = (up.0, rest e)
    by_test false e rest = (low, (e, up.1))

with_up : (x : Method) (ys : List Method) → Up ys → Up (with_method x ys)
with_up x [] up = tt
with_up x (y ∷ ys) up = by_test (is_before y x) refl
  where
    by_test : (b : Bool) → is_before y x ≡ b → Up (cond b (y ∷ with_method x ys) (x ∷ y ∷ ys))
    by_test true e = with_behind y x ys (order.one_way y x e) up
    by_test false e = (e, up)

by_name_up : (xs : List Method) → Up (by_name xs)
by_name_up [] = tt
by_name_up (x ∷ xs) = with_up x (by_name xs) (by_name_up xs)

behind_at : (x : Method) (xs : List Method) → Behind x xs → (k : ℕ) (d : Method) → suc k < length (x ∷ xs) → is_before (get_or (x ∷ xs) (suc k) d) (get_or (x ∷ xs) k d) ≡ false
behind_at x [] up k d below = absurd (omega (arith, below))
behind_at x (y ∷ ys) up zero d below = up.0
behind_at x (y ∷ ys) up (suc k) d below = behind_at y ys up.1 k d (omega (arith, below))

pub sorted : (xs : List Method) → IsSortedBy is_before (by_name xs)
sorted xs = of_up (by_name xs) (by_name_up xs)
  where
    of_up : (ys : List Method) → Up ys → IsSortedBy is_before ys
    of_up [] up k d low below = absurd (omega (arith, below))
    of_up (y ∷ ys) up k d low below =
        let one : suc k ≡ k + 1 = omega arith in
        subst (λ (n : ℕ). is_before (get_or (y ∷ ys) n d) (get_or (y ∷ ys) k d) ≡ false) one (behind_at y ys up k d (omega (arith, below)))

-- ---- those of one name as they stood

tied : (z x : Method) → ties is_before z x ≡ true → (is_before z x ≡ false) × (is_before x z ≡ false)
tied z x e = by_tests (is_before z x) (is_before x z) e
  where
    by_tests : (a b : Bool) → (not a && not b) ≡ true → (a ≡ false) × (b ≡ false)
    by_tests true b e = absurd cc
    by_tests false true e = absurd cc
    by_tests false false e = (refl, refl)

-- one of a lesser name and one of a greater one don't both have the name of a third
apart : (z x y : Method) → is_before y x ≡ true → ties is_before z y ≡ true → ties is_before z x ≡ true → ⊥
apart z x y less first second =
    let low : is_before y x ≡ false = order.chain y z x (tied z y first).1 (tied z x second).0 in
    differs (sym less ∙ low)
  where
    differs : true ≡ false → ⊥
    differs e = absurd cc

abbrev kept : Method → List Method → List Method
kept z xs = filter (ties is_before z) xs

with_stable : (z x : Method) (ys : List Method) → kept z (with_method x ys) ≡ kept z (x ∷ ys)
with_stable z x [] = refl
with_stable z x (y ∷ ys) = by_test (is_before y x) refl (with_stable z x ys)
  where
    moved : (a b : Bool) → (a ≡ true → b ≡ true → ⊥) → cond a (y ∷ cond b (x ∷ kept z ys) (kept z ys)) (cond b (x ∷ kept z ys) (kept z ys)) ≡ cond b (x ∷ cond a (y ∷ kept z ys) (kept z ys)) (cond a (y ∷ kept z ys) (kept z ys))
    moved true true not_both = absurd (not_both refl refl)
    moved true false not_both = refl
    moved false true not_both = refl
    moved false false not_both = refl

    by_test : (b : Bool) → is_before y x ≡ b → kept z (with_method x ys) ≡ kept z (x ∷ ys) → kept z (cond b (y ∷ with_method x ys) (x ∷ y ∷ ys)) ≡ kept z (x ∷ y ∷ ys)
    by_test true e rest =
        ap (λ (more : List Method). cond (ties is_before z y) (y ∷ more) more) rest
        ∙ moved (ties is_before z y) (ties is_before z x) (λ first second. apart z x y e first second)
    by_test false e rest = refl

pub stable : (xs : List Method) → IsStableBy is_before xs (by_name xs)
stable [] z = refl
stable (x ∷ xs) z = with_stable z x (by_name xs) ∙ ap (λ (more : List Method). cond (ties is_before z x) (x ∷ more) more) (stable xs z)
