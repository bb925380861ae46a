-- One table explains itself, and it is filled in an order.
use Rattle.std.proofs.Common.{◌≡◌, ◌≢◌, ◌⊎◌, inl, inr, ◌<◌, ◌+◌, ℕ, zero, suc, List, length, Some, sym, ap, ◌∙◌, arith}
use Rattle.std.specs.Prelude.{slice_get}
use Rattle.explained_tables.specs.Tables.{Explained, IsLocal, IsRanked, IsOrder, Reached, Fills}

same_or_less : (k l : ℕ) → k < l + 1 → (k ≡ l) ⊎ (k < l)
same_or_less k l h = grind arith

some_is : (i j : ℕ) → Some i ≡ Some j → i ≡ j
some_is i j e = cc

module _ {V : Type 0} (step : (ℕ → V) → ℕ → V) (needs : ℕ → ℕ → Type 0) (local : IsLocal step needs) where
  agree : (count : ℕ) (rank : ℕ → ℕ) (f g : ℕ → V) → IsRanked needs count rank → Explained step count f → Explained step count g → (bound i : ℕ) → i < count → rank i < bound → f i ≡ g i
  agree count rank f g ranked a b zero i inside below = absurd (omega (arith, below))
  agree count rank f g ranked a b (suc n) i inside below = a i inside ∙ local f g i (λ j w. let r = ranked i inside j w in agree count rank f g ranked a b n j r.0 (omega (arith, r.1, below))) ∙ sym (b i inside)

  pub one : (count : ℕ) (rank : ℕ → ℕ) (f g : ℕ → V) → IsRanked needs count rank → Explained step count f → Explained step count g → (i : ℕ) → i < count → f i ≡ g i
  one count rank f g ranked a b i inside = agree count rank f g ranked a b (suc (rank i)) i inside (omega arith)

  pub begins : (order : List ℕ) (table : ℕ → V) → Reached step order 0 table
  begins order table k i below is = absurd (omega (arith, below))

  -- an entry of an earlier place is another one
  apart : (order : List ℕ) (k l i j : ℕ) → IsOrder needs order → slice_get order k ≡ Some i → slice_get order l ≡ Some j → l < k → j ≢ i
  apart order k l i j o a b less same = let e : k ≡ l = o.once k l i a (b ∙ ap Some same) in omega (arith, e, less)

  kept : (order : List ℕ) (k i : ℕ) (before after : ℕ → V) → IsOrder needs order → slice_get order k ≡ Some i → Fills step i before after → (l j : ℕ) → (l ≡ k) ⊎ (l < k) → slice_get order l ≡ Some j → step before j ≡ step after j
  kept order k i before after o is fills l j at_most has = local before after j (λ m w. let b = o.before l j has m w in sym (fills.others m (apart order k b.0 i m o is b.2 (earlier at_most b.1))))
    where
      earlier : {p : ℕ} → (l ≡ k) ⊎ (l < k) → p < l → p < k
      earlier (inl e) less = omega (arith, e, less)
      earlier (inr h) less = omega (arith, h, less)

  pub goes_on : (order : List ℕ) (k i : ℕ) (before after : ℕ → V) → IsOrder needs order → slice_get order k ≡ Some i → Reached step order k before → Fills step i before after → Reached step order (k + 1) after
  goes_on order k i before after o is reached fills l j below has = by_place (same_or_less l k below)
    where
      by_place : (l ≡ k) ⊎ (l < k) → after j ≡ step after j
      by_place (inl e) =
          let same : j ≡ i = some_is j i (sym has ∙ ap (slice_get order) e ∙ is) in
          ap after same ∙ fills.filled ∙ ap (step before) (sym same) ∙ kept order k i before after o is fills l j (inl e) has
      by_place (inr less) = fills.others j (apart order k l i j o is has less) ∙ reached l j less has ∙ kept order k i before after o is fills l j (inr less) has

pub all : {V : Type 0} (step : (ℕ → V) → ℕ → V) (order : List ℕ) (count : ℕ) (table : ℕ → V) → ((i : ℕ) → i < count → (k : ℕ) × (k < length order) × (slice_get order k ≡ Some i)) → Reached step order (length order) table → Explained step count table
all step order count table has reached i inside = let p = has i inside in reached p.0 i p.1 p.2
