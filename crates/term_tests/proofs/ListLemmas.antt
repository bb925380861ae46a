-- Members of lists, and tests of all members.
use Rattle.std.proofs.Common.{◌≡◌, ◌⊎◌, inl, inr, ℕ, zero, suc, List, [], ◌∷◌, ◌++◌, length, drop, slice_get, Some, Ok, Err, refl, ap, sym, subst, ◌∙◌, arith}
use Rattle.std.specs.List.{Contains, flat_map}
use Rattle.std.proofs.lemmas.List.Elements.{Contains-append_left, Contains-append_right, Contains-append_cases}
use Rattle.type_sets.specs.TermTests.{Tested, fine, both}

module _ {X : Type 0} where
  pub here_of : (x : X) (xs : List X) → Contains (x ∷ xs) x
  here_of x xs = (0, omega arith, refl)

  pub later_of : (x : X) (xs : List X) (y : X) → Contains xs y → Contains (x ∷ xs) y
  later_of x xs y held = Contains-append_right (x ∷ []) xs y held

  single_of : (x y : X) → Contains (x ∷ []) y → y ≡ x
  single_of x y (zero, within, is) = sym is
  single_of x y (suc k, within, is) = absurd (omega arith)

  pub cases_of : (x : X) (xs : List X) (y : X) → Contains (x ∷ xs) y → (y ≡ x) ⊎ Contains xs y
  cases_of x xs y held = elim (Contains-append_cases (x ∷ []) xs y held) [ inl head ↦ inl (single_of x y head) | inr tail ↦ inr tail ]

  pub none_of : (y : X) → Contains [] y → ⊥
  none_of y held = omega (arith, held.1)

  pub drop_next : (xs : List X) (k : ℕ) (x : X) → slice_get xs k ≡ Some x → drop k xs ≡ x ∷ drop (suc k) xs
  drop_next [] k x is = absurd cc
  drop_next (y ∷ xs) zero x is = let same : y ≡ x = cc in ap (λ z. z ∷ xs) same
  drop_next (y ∷ xs) (suc k) x is = drop_next xs k x is

  pub drop_all : (xs : List X) → drop (length xs) xs ≡ []
  drop_all [] = refl
  drop_all (x ∷ xs) = drop_all xs

module _ {X Y : Type 0} (inner : X → List Y) where
  pub flat_has : (xs : List X) (x : X) (y : Y) → Contains xs x → Contains (inner x) y → Contains (flat_map inner xs) y
  flat_has [] x y held has = absurd (none_of x held)
  flat_has (z ∷ zs) x y held has = elim (cases_of z zs x held) [
    | inl same ↦ Contains-append_left (inner z) (flat_map inner zs) y (subst (λ w. Contains (inner w) y) same has)
    | inr later ↦ Contains-append_right (inner z) (flat_map inner zs) y (flat_has zs x y later has)
  ]

  pub flat_from : (xs : List X) (y : Y) → Contains (flat_map inner xs) y → (x : X) × Contains xs x × Contains (inner x) y
  flat_from [] y held = absurd (none_of y held)
  flat_from (z ∷ zs) y held = elim (Contains-append_cases (inner z) (flat_map inner zs) y held) [
    | inl head ↦ (z, here_of z zs, head)
    | inr tail ↦ let found = flat_from zs y tail in (found.0, later_of z zs found.0 found.1, found.2)
  ]

-- What is tested of two is the first, or else the second.

pub both_fine : (a : Tested) → both a fine ≡ a
both_fine (Ok u) = refl
both_fine (Err fault) = refl

pub both_again : (a b c : Tested) → both (both a b) c ≡ both a (both b c)
both_again (Ok u) b c = refl
both_again (Err fault) b c = refl

pub fine_parts : (a b : Tested) → a ≡ fine → both a b ≡ b
fine_parts a b is = ap (λ r. both r b) is

-- all of a list are tested, in order
abbrev pub fold : {X : Type 0} → (X → Tested) → List X → Tested
fold test [] = fine
fold test (x ∷ xs) = both (test x) (fold test xs)

module _ {X : Type 0} (test : X → Tested) where
  pub fold_append : (xs ys : List X) → fold test (xs ++ ys) ≡ both (fold test xs) (fold test ys)
  fold_append [] ys = refl
  fold_append (x ∷ xs) ys = ap (both (test x)) (fold_append xs ys) ∙ sym (both_again (test x) (fold test xs) (fold test ys))

  -- what was tested before needs no test
  pub absorbed : (xs : List X) (x : X) (rest : Tested) → Contains xs x → both (fold test xs) (both (test x) rest) ≡ both (fold test xs) rest
  absorbed [] x rest held = absurd (none_of x held)
  absorbed (y ∷ xs) x rest held = elim (cases_of y xs x held) [
    | inl same ↦ head (test y) refl same
    | inr later ↦
        both_again (test y) (fold test xs) (both (test x) rest) ∙ ap (both (test y)) (absorbed xs x rest later)
        ∙ sym (both_again (test y) (fold test xs) rest)
  ]
    where
      middle : (a b c : Tested) → both (both a b) (both a c) ≡ both (both a b) c
      middle (Ok u) b c = refl
      middle (Err fault) b c = refl

      head : (a : Tested) → test y ≡ a → x ≡ y → both (both (test y) (fold test xs)) (both (test x) rest) ≡ both (both (test y) (fold test xs)) rest
      head a is same = ap (λ (z : X). both (both (test y) (fold test xs)) (both (test z) rest)) same ∙ middle (test y) (fold test xs) rest

pub fold_flat : {X Y : Type 0} (test : Y → Tested) (inner : X → List Y) (xs : List X)
    → fold test (flat_map inner xs) ≡ fold (λ x. fold test (inner x)) xs
fold_flat test inner [] = refl
fold_flat test inner (x ∷ xs) = fold_append test (inner x) (flat_map inner xs) ∙ ap (both (fold test (inner x))) (fold_flat test inner xs)
