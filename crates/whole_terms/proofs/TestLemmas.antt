-- Tests in a row.
use Rattle.std.proofs.Common.{◌≡◌, ◌⊎◌, inl, inr, ℕ, List, [], ◌∷◌, ◌++◌, map, Ok, Err, refl, ap, sym, ◌∙◌}
use Rattle.std.specs.Prelude.{Result, OnOk}
use Rattle.std.specs.List.{Contains}
use Rattle.type_sets.specs.TermTests.{Tested, fine, both, all_fine}
use Rattle.term_tests.proofs.ListLemmas.{both_fine, both_again, cases_of, none_of}

pub map_append : {X Y : Type 0} (f : X → Y) (xs ys : List X) → map f (xs ++ ys) ≡ map f xs ++ map f ys
map_append f [] ys = refl
map_append f (x ∷ xs) ys = ap (λ l. f x ∷ l) (map_append f xs ys)

pub all_append : (xs ys : List Tested) → all_fine (xs ++ ys) ≡ both (all_fine xs) (all_fine ys)
all_append [] ys = refl
all_append (x ∷ xs) ys = ap (both x) (all_append xs ys) ∙ sym (both_again x (all_fine xs) (all_fine ys))

module _ {X : Type 0} (test : X → Tested) where
  pub all_mapped : (xs ys : List X) → all_fine (map test (xs ++ ys)) ≡ both (all_fine (map test xs)) (all_fine (map test ys))
  all_mapped xs ys = ap all_fine (map_append test xs ys) ∙ all_append (map test xs) (map test ys)

  -- what was tested before needs no test
  pub tested_before : (xs : List X) (x : X) → Contains xs x → both (all_fine (map test xs)) (test x) ≡ all_fine (map test xs)
  tested_before [] x held = absurd (none_of x held)
  tested_before (y ∷ xs) x held = elim (cases_of y xs x held) [
    | inl same ↦ ap (λ (z : X). both (both (test y) (all_fine (map test xs))) (test z)) same ∙ head (test y) (all_fine (map test xs))
    | inr later ↦ both_again (test y) (all_fine (map test xs)) (test x) ∙ ap (both (test y)) (tested_before xs x later)
  ]
    where
      head : (a b : Tested) → both (both a b) a ≡ both a b
      head (Ok u) (Ok w) = refl
      head (Ok u) (Err fault) = refl
      head (Err fault) b = refl

  -- all of them are fine where each is
  pub each_fine : (xs : List X) → ((x : X) → test x ≡ fine) → all_fine (map test xs) ≡ fine
  each_fine [] each = refl
  each_fine (x ∷ xs) each = λ i. both (each x i) (each_fine xs each i)

pub both_parts : (a b : Tested) → both a b ≡ fine → (a ≡ fine) × (b ≡ fine)
both_parts (Ok u) b is = (refl, is)
both_parts (Err fault) b is = absurd cc

-- the second counts only where the first is fine
pub both_agree : (a b c : Tested) → (a ≡ fine → b ≡ c) → both a b ≡ both a c
both_agree (Ok u) b c same = same refl
both_agree (Err fault) b c same = refl

pub then_ok : {X E P Q : Type 0} (r : Result X E) → (P → Q) → OnOk r P → OnOk r Q
then_ok (Ok x) step holds = step holds
then_ok (Err e) step holds = tt
