-- Shifts by 127 places or more.
use Rattle.std.proofs.Common.{◌≡◌, ◌<◌, ◌≤◌, ◌*◌, ◌^◌, ◌-◌, inl, inr, ◌/◌, ◌%◌, ℕ, zero, suc, refl, sym, ◌∙◌, ap, arith, to_z, of_z}
use Rattle.std.specs.Prelude.{ℤ, pos, negsuc, int_lt, Bool, true, false, unsigned_abs, FitsSigned}
use Rattle.std.specs.Int.{w128}
use Rattle.std.proofs.Math.Nat.{div-eq_of_lt, pow-le-pow_right, mul-le-mul_right}
use Rattle.std.proofs.Math.Pow.{pow-lt}
use Rattle.std.proofs.lemmas.Bool.{cases_eq}
use Rattle.std.proofs.lemmas.Nat.{one_shl}
use Rattle.std.proofs.lemmas.Int.{to_z_pos, unsigned_abs-mul}
use Rattle.std.proofs.lemmas.Bool.Decides.{nat_tests}
use Rattle.go_values.specs.declared.constants.Const.TheVariants.{Int}
use Rattle.const_values.specs.declared.values.Value.{Value}
use Rattle.const_values.specs.Answers.{shift_answer, within_kind}
use Rattle.const_values.specs.Exact.{shift_left, shift_right, shift_by}

power : (count : ℕ) → 127 ≤ count → 2 ^ 127 ≤ 2 ^ count
power count far = pow-le-pow_right {n = 2} (omega arith) far

none_left : (n count : ℕ) → n < 2 ^ 127 → 127 ≤ count → n / 2 ^ count ≡ 0
none_left n count below far = div-eq_of_lt (omega (arith, power count far))

pub right_below_zero : (z : ℤ) (count : ℕ) → FitsSigned w128 z → 127 ≤ count → int_lt z (pos 0) ≡ true → negsuc 0 ≡ shift_right z count
right_below_zero (pos n) count fits far below = grind (arith, nat_tests)
right_below_zero (negsuc n) count fits far below = ap negsuc (sym (none_left n count fits.sfits far))

pub right_from_zero : (z : ℤ) (count : ℕ) → FitsSigned w128 z → 127 ≤ count → int_lt z (pos 0) ≡ false → pos 0 ≡ shift_right z count
right_from_zero (pos n) count fits far above = ap pos (sym (none_left n count fits.sfits far))
right_from_zero (negsuc n) count fits far above = cc

-- the word of a power of two
pub power_word : (count : ℕ) → count < 127 → to_z w128 (1 * 2 ^ count % 2 ^ 128) ≡ pos (2 ^ count)
power_word count near =
    let below : 2 ^ count < 2 ^ 127 = pow-lt near in
    ap (to_z w128) (one_shl count 128 (omega arith)) ∙ to_z_pos w128 (2 ^ count) below

abs_bound : (z : ℤ) → FitsSigned w128 z → unsigned_abs z ≤ 2 ^ 127
abs_bound (pos n) fits = omega (arith, fits.sfits)
abs_bound (negsuc n) fits = omega (arith, fits.sfits)

-- a number other than 0 times such a power has more bits than 128, unless it is -1 times 2 ^ 127
pub left_too_far : (z : ℤ) (count : ℕ) → (of_z w128 z ≡ 0 → ⊥) → 127 ≤ count → (count ≡ 127 → of_z w128 z ≡ 2 ^ 128 - 1 → ⊥) → FitsSigned w128 (shift_left z count) → ⊥
left_too_far (pos zero) count other far edge fits = other refl
left_too_far (pos (suc n)) count other far edge fits =
    let below : suc n * 2 ^ count < 2 ^ 127 = fits.sfits in
    omega (arith, power count far, (let once : 1 * 2 ^ count ≤ suc n * 2 ^ count = mul-le-mul_right (2 ^ count) (omega arith) in once))
left_too_far (negsuc zero) count other far edge fits =
    let bound = abs_bound (shift_left (negsuc 0) count) fits in
    let product : unsigned_abs (shift_left (negsuc 0) count) ≡ 1 * 2 ^ count = unsigned_abs-mul (negsuc 0) (pos (2 ^ count)) in
    elim (cases_eq count 127) [
      | inl at ↦ edge at refl
      | inr beyond ↦ let larger : 2 ^ 128 ≤ 2 ^ count = (let past : 128 ≤ count = omega arith in pow-le-pow_right {n = 2} (omega arith) past) in omega arith
    ]
left_too_far (negsuc (suc n)) count other far edge fits =
    let bound = abs_bound (shift_left (negsuc (suc n)) count) fits in
    let product : unsigned_abs (shift_left (negsuc (suc n)) count) ≡ suc (suc n) * 2 ^ count = unsigned_abs-mul (negsuc (suc n)) (pos (2 ^ count)) in
    let twice : 2 * 2 ^ count ≤ suc (suc n) * 2 ^ count = mul-le-mul_right (2 ^ count) (omega arith) in
    omega (arith, power count far)

-- what a shift answers, by the number and the places that its operands hold
pub shift_answers : (left : Bool) (v count : Value) (number places exact : ℤ) → v.value ≡ Int number → count.value ≡ Int places
    → int_lt places (pos 0) ≡ false → exact ≡ shift_by left number (unsigned_abs places)
    → within_kind v.kind (Int exact) ≡ shift_answer left v count
unfolding shift_answer
shift_answers left v count number (pos n) exact value_is count_is from_zero exact_is = rw (value_is, count_is, exact_is) refl
shift_answers left v count number (negsuc n) exact value_is count_is from_zero exact_is = cc
