-- Members of lists: found by a test, and no more than a list has where they are distinct.
use Rattle.std.proofs.Common.{◌≡◌, ◌≢◌, ℕ, zero, suc, ◌<◌, ◌≤◌, List, [], ◌∷◌, length, get_or, Bool, true, false, ◌||◌, ◌&&◌, refl, sym, ap, subst, ◌∙◌, arith}
use Rattle.std.specs.List.{AllPairs, Contains, list_any}
use Rattle.std.specs.Cmp.Lexicographic.{pointwise, bytes_decides}
use Rattle.std.specs.Prelude.{nat_eq}
use Rattle.std.proofs.lemmas.Map.Views.{Contains-from_any}
use Rattle.go_values.specs.declared.qualified.QName.{QName}
use Rattle.go_values.specs.Exact.{exact_qname}
use Rattle.type_terms.specs.TreeEquality.{same_name}
use Rattle.export_order.specs.Order.{is_among}

both : (a b : Bool) → a ≡ true → b ≡ true → (a && b) ≡ true
both true true e f = refl
both true false e f = f
both false b e f = absurd cc

or_first : (a b : Bool) → a ≡ true → (a || b) ≡ true
or_first true b e = refl
or_first false b e = absurd cc

or_later : (a b : Bool) → b ≡ true → (a || b) ≡ true
or_later true b e = refl
or_later false b e = e

same_itself : (q : QName) → same_name q q ≡ true
same_itself q = both (pointwise nat_eq q.path q.path) (pointwise nat_eq q.name q.name) ((bytes_decides q.path q.path).1 refl) ((bytes_decides q.name q.name).1 refl)

pub among_is : (names : List QName) (q : QName) → is_among names q ≡ true → Contains names q
among_is names q e = Contains-from_any exact_qname q names e

pub is_among_there : (names : List QName) (q : QName) → Contains names q → is_among names q ≡ true
is_among_there [] q has = absurd (omega (arith, has.1))
is_among_there (x ∷ xs) q (zero, below, is) = or_first (same_name q x) (list_any (same_name q) xs) (subst (λ (y : QName). same_name q y ≡ true) (sym is) (same_itself q))
is_among_there (x ∷ xs) q (suc k, below, is) = or_later (same_name q x) (list_any (same_name q) xs) (is_among_there xs q (k, omega (arith, below), is))

-- ---- how many distinct members there are

module _ {X : Type 0} where
  abbrev pub Distinct : List X → Type 0
  Distinct xs = AllPairs (λ a b. a ≢ b) xs

  without : List X → ℕ → List X
  without [] k = []
  without (x ∷ xs) zero = xs
  without (x ∷ xs) (suc k) = x ∷ without xs k

  shorter : (xs : List X) (k : ℕ) → k < length xs → length xs ≡ suc (length (without xs k))
  unfolding without
  shorter [] k below = absurd (omega (arith, below))
  shorter (x ∷ xs) zero below = refl
  shorter (x ∷ xs) (suc k) below = ap suc (shorter xs k (omega (arith, below)))

  later : (x : X) (xs : List X) (z : X) → Contains xs z → Contains (x ∷ xs) z
  later x xs z has = (suc has.0, omega (arith, has.1), has.2)

  -- two values at one place are the same
  at_one_place : (xs : List X) (k : ℕ) (a b : X) → k < length xs → get_or xs k a ≡ a → get_or xs k b ≡ b → a ≡ b
  at_one_place [] k a b below is_a is_b = absurd (omega (arith, below))
  at_one_place (x ∷ xs) zero a b below is_a is_b = sym is_a ∙ is_b
  at_one_place (x ∷ xs) (suc k) a b below is_a is_b = at_one_place xs k a b (omega (arith, below)) is_a is_b

  stays : (xs : List X) (k j : ℕ) (a z : X) → k < length xs → get_or xs k a ≡ a → j < length xs → get_or xs j z ≡ z → a ≢ z → Contains (without xs k) z
  unfolding without
  stays [] k j a z below is_a there is_z apart = absurd (omega (arith, below))
  stays (x ∷ xs) zero zero a z below is_a there is_z apart = absurd (apart (sym is_a ∙ is_z))
  stays (x ∷ xs) zero (suc j) a z below is_a there is_z apart = (j, omega (arith, there), is_z)
  stays (x ∷ xs) (suc k) zero a z below is_a there is_z apart = (0, omega arith, is_z)
  stays (x ∷ xs) (suc k) (suc j) a z below is_a there is_z apart = later x (without xs k) z (stays xs k j a z (omega (arith, below)) is_a (omega (arith, there)) is_z apart)

  pub at_most : (xs ys : List X) → Distinct xs → ((z : X) → Contains xs z → Contains ys z) → length xs ≤ length ys
  at_most [] ys distinct inside = omega arith
  at_most (x ∷ xs) ys distinct inside =
      let here = inside x (0, omega arith, refl) in
      let rest = at_most xs (without ys here.0) (λ i j d less below. distinct (suc i) (suc j) d (omega (arith, less)) (omega (arith, below)))
      (λ z has. let place = inside z (later x xs z has) in stays ys here.0 place.0 x z here.1 here.2 place.1 place.2 (λ e. distinct 0 (suc has.0) z (omega arith) (omega (arith, has.1)) (e ∙ sym has.2))) in
      omega (arith, rest, shorter ys here.0 here.1)
