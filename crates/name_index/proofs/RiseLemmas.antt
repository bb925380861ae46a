-- Orders as rules between neighbours, and as facts of whole lists.
use Rattle.std.proofs.lemmas.Bool.{eqb-true, eq-eqb}
use Rattle.std.proofs.Common.{◌≡◌, ◌≢◌, ◌&&◌, subst, ℕ, List, [], ◌∷◌, map, Option, Some, None, Bool, true, false, not, refl, sym, ap, ◌∙◌, nat_eq}
use Rattle.std.specs.Cmp.Lexicographic.{slice_cmp, pointwise}
use Rattle.std.specs.Ordering.{nat_cmp, is_lt}
use Rattle.std.specs.declared.cmp.Ordering.{Ordering}
use Rattle.std.specs.declared.cmp.Ordering.TheVariants.{Less, Equal, Greater}
use Rattle.wire_bytes.specs.Reading.{Linked}
use Rattle.wire_bytes.specs.Order.{IsBelow, RiseFrom, Rise, rises}

less_from_test : (o : Ordering) → is_lt o ≡ true → o ≡ Less
less_from_test Less e = refl
less_from_test Equal e = absurd cc
less_from_test Greater e = absurd cc

pub below_from_test : (a b : List ℕ) → is_lt (slice_cmp nat_cmp a b) ≡ true → IsBelow a b
below_from_test a b e = less_from_test (slice_cmp nat_cmp a b) e

pub test_from_below : (a b : List ℕ) → IsBelow a b → is_lt (slice_cmp nat_cmp a b) ≡ true
test_from_below a b e = rw e refl

module _ {X : Type 0} where
  -- each of them has a text above the one before it
  abbrev pub Rising : (X → List ℕ) → Option (List ℕ) → X → Type 0
  Rising text last x = rises last (text x) ≡ true

  pub linked_rise_from : (text : X → List ℕ) (last : List ℕ) (xs : List X) → Linked (Rising text) (λ x. Some (text x)) (Some last) xs → RiseFrom last (map text xs)
  linked_rise_from text last [] linked = tt
  linked_rise_from text last (x ∷ xs) linked = (below_from_test last (text x) linked.0, linked_rise_from text (text x) xs linked.1)

  pub linked_rise : (text : X → List ℕ) (xs : List X) → Linked (Rising text) (λ x. Some (text x)) None xs → Rise (map text xs)
  linked_rise text [] linked = tt
  linked_rise text (x ∷ xs) linked = linked_rise_from text (text x) xs linked.1

  pub rise_linked_from : (text : X → List ℕ) (last : List ℕ) (xs : List X) → RiseFrom last (map text xs) → Linked (Rising text) (λ x. Some (text x)) (Some last) xs
  rise_linked_from text last [] rising = tt
  rise_linked_from text last (x ∷ xs) rising = (test_from_below last (text x) rising.0, rise_linked_from text (text x) xs rising.1)

  pub rise_linked : (text : X → List ℕ) (xs : List X) → Rise (map text xs) → Linked (Rising text) (λ x. Some (text x)) None xs
  rise_linked text [] rising = tt
  rise_linked text (x ∷ xs) rising = (refl, rise_linked_from text (text x) xs rising)

-- ---- equal texts

both_true : (a b : Bool) → (a && b) ≡ true → (a ≡ true) × (b ≡ true)
both_true true b e = (refl, e)
both_true false b e = absurd cc

pub same_text : (a b : List ℕ) → pointwise nat_eq a b ≡ true → a ≡ b
same_text [] [] e = refl
same_text [] (y ∷ b) e = absurd cc
same_text (x ∷ a) [] e = absurd cc
same_text (x ∷ a) (y ∷ b) e =
    let both = both_true (nat_eq x y) (pointwise nat_eq a b) e in
    let first : x ≡ y = eqb-true x y both.0 in
    let rest : a ≡ b = same_text a b both.1 in
    cc

pub text_itself : (a : List ℕ) → pointwise nat_eq a a ≡ true
text_itself [] = refl
text_itself (x ∷ a) = rw (eq-eqb x x refl, text_itself a) refl

other_from : (b : Bool) (P : Type 0) → (b ≡ true → P) → (P → ⊥) → not b ≡ true
other_from true P same differ = absurd (differ (same refl))
other_from false P same differ = refl

pub other_test : (a b : List ℕ) → a ≢ b → not (pointwise nat_eq a b) ≡ true
other_test a b differ = other_from (pointwise nat_eq a b) (a ≡ b) (same_text a b) differ

pub other_text : (a b : List ℕ) → not (pointwise nat_eq a b) ≡ true → a ≢ b
other_text a b e same =
    let itself : pointwise nat_eq a b ≡ true = subst (λ (t : List ℕ). pointwise nat_eq a t ≡ true) same (text_itself a) in
    absurd (let never : not true ≡ true = ap not (sym itself) ∙ e in cc)
