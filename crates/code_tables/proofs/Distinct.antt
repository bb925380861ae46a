-- A list that passes the test of distinct codes has each code at one place.
use Rattle.std.proofs.Common.{◌≡◌, ◌<◌, ℕ, zero, suc, List, [], ◌∷◌, true, not, length, slice_index, arith, sym, eq-eqb}
use Rattle.std.specs.Prelude.{IsTrue, ◌==◌}
use Rattle.std.proofs.lemmas.Bool.{and_parts}
use Rattle.std.proofs.lemmas.List.Folds.{list_any_at}
use Rattle.std.proofs.Math.Decide.{dec_lt}
use Rattle.std.specs.List.{list_any}
use Rattle.code_tables.specs.Codes.{all_distinct}

-- a code that stands again later fails the test
pub apart : (codes : List ℕ) → IsTrue (all_distinct codes) → (i j : ℕ) → i < j → j < length codes → slice_index codes i ≡ slice_index codes j → ⊥
apart [] h i j before within same = absurd (omega arith)
apart (code ∷ codes) h i zero before within same = omega arith
apart (code ∷ codes) h zero (suc j) before within same =
    let parts = and_parts (not (list_any (λ other. code == other) codes)) (all_distinct codes) h in
    let inside : j < length codes = omega arith in
    let here : (code == slice_index codes j) ≡ true = eq-eqb code (slice_index codes j) same in
    let stands : list_any (λ other. code == other) codes ≡ true = list_any_at (λ other. code == other) codes j 0 inside here in
    let fails : not (list_any (λ other. code == other) codes) ≡ true = parts.0 in
    cc
apart (code ∷ codes) h (suc i) (suc j) before within same =
    apart codes (and_parts (not (list_any (λ other. code == other) codes)) (all_distinct codes) h).1 i j (omega arith) (omega arith) same

pub one_place : (codes : List ℕ) → IsTrue (all_distinct codes) → (i j : ℕ) → i < length codes → j < length codes → slice_index codes i ≡ slice_index codes j → i ≡ j
one_place codes h i j i_within j_within same = elim (dec_lt i j) [
  | yes below ↦ absurd (apart codes h i j below j_within same)
  | no not_below ↦ elim (dec_lt j i) [
    | yes above ↦ absurd (apart codes h j i above i_within (sym same))
    | no not_above ↦ omega arith
  ]
]
