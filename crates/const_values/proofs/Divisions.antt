-- Division toward zero, and division by a power of two rounded down.
use Rattle.std.proofs.Common.{◌≡◌, ◌≢◌, ◌<◌, ◌≤◌, ◌+◌, ◌*◌, ◌^◌, ◌/◌, ℕ, zero, suc, refl, ◌∙◌, ap, arith}
use Rattle.std.specs.Prelude.{ℤ, pos, negsuc, ◌+ℤ◌, ◌*ℤ◌, neg_ℤ, ◌≤ℤ◌, ◌<ℤ◌, int_div, int_rem, unsigned_abs}
use Rattle.std.proofs.Math.Nat.{div-mul-le_self, lt-div-mul-add, one-le-pow}
use Rattle.std.proofs.Math.IntN.{negsuc-*ℤ-pos}
use Rattle.std.proofs.lemmas.Int.{unsigned_abs-mul, rem_below, ints}
use Rattle.const_values.specs.Exact.{shift_right}

abs_opposite : (n : ℕ) → unsigned_abs (neg_ℤ (pos n)) ≡ n
abs_opposite zero = refl
abs_opposite (suc n) = refl

abs_quotient : (x y : ℤ) → unsigned_abs (int_div x y) ≡ unsigned_abs x / unsigned_abs y
abs_quotient (pos m) (pos n) = refl
abs_quotient (pos m) (negsuc n) = abs_opposite (m / suc n)
abs_quotient (negsuc m) (pos n) = abs_opposite (suc m / n)
abs_quotient (negsuc m) (negsuc n) = refl

pub toward_zero : (x y : ℤ) → unsigned_abs (int_div x y *ℤ y) ≤ unsigned_abs x
toward_zero x y = rw (unsigned_abs-mul (int_div x y) y, abs_quotient x y) (div-mul-le_self (unsigned_abs x) (unsigned_abs y))

pub smaller : (x y : ℤ) → y ≢ pos 0 → unsigned_abs (int_rem x y) < unsigned_abs y
smaller x (pos zero) other = absurd (other refl)
smaller x (pos (suc n)) other = rem_below x (pos (suc n)) (omega arith)
smaller x (negsuc n) other = rem_below x (negsuc n) (omega arith)

at_most_below : (n q d : ℕ) → n < q * d + d → (negsuc q *ℤ pos d) ≤ℤ negsuc n
at_most_below n q d h = rw (negsuc-*ℤ-pos q d) (omega (arith, ints))

opposite : (q d : ℕ) → neg_ℤ (pos q) *ℤ pos d ≡ neg_ℤ (pos (q * d))
opposite zero d = let none : 0 * d ≡ 0 = omega arith in rw none refl
opposite (suc q) d = negsuc-*ℤ-pos q d

next : (q d : ℕ) → (negsuc q +ℤ pos 1) *ℤ pos d ≡ neg_ℤ (pos (q * d))
next q d = let is : negsuc q +ℤ pos 1 ≡ neg_ℤ (pos q) = omega (arith, ints) in ap (λ z. z *ℤ pos d) is ∙ opposite q d

greatest_below : (n q d : ℕ) → q * d ≤ n → negsuc n <ℤ ((negsuc q +ℤ pos 1) *ℤ pos d)
greatest_below n q d h = rw (next q d) (omega (arith, ints))

some_power : (count : ℕ) → 0 < 2 ^ count
some_power count = one-le-pow count 2 (omega arith)

pub at_most : (x : ℤ) (count : ℕ) → (shift_right x count *ℤ pos (2 ^ count)) ≤ℤ x
at_most (pos n) count = let below = div-mul-le_self n (2 ^ count) in omega (arith, ints)
at_most (negsuc n) count = at_most_below n (n / 2 ^ count) (2 ^ count) (lt-div-mul-add (some_power count))

pub greatest : (x : ℤ) (count : ℕ) → x <ℤ ((shift_right x count +ℤ pos 1) *ℤ pos (2 ^ count))
greatest (pos n) count = let above : n < n / 2 ^ count * 2 ^ count + 2 ^ count = lt-div-mul-add (some_power count) in omega (arith, ints)
greatest (negsuc n) count = greatest_below n (n / 2 ^ count) (2 ^ count) (div-mul-le_self n (2 ^ count))
