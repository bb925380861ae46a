-- The bits of the bitwise operators' results, and that a machine word of 128 bits computes them.
use Rattle.std.proofs.Common.{◌≡◌, ◌<◌, ◌+◌, ◌-◌, ◌^◌, ◌%◌, ℕ, suc, refl, sym, ◌∙◌, ap, arith}
use Rattle.std.specs.Prelude.{ℤ, pos, negsuc, min, max, bit_and, bit_or, bit_xor, FitsSigned}
use Rattle.std.specs.Int.{bit_at, w128}
use Rattle.std.proofs.Common.{to_z, of_z}
use Rattle.std.proofs.lemmas.Int.{to_z-of_z}
use Rattle.std.proofs.lemmas.Nat.{and_le_l, and_le_r, or_lt, xor_lt}
use Rattle.std.proofs.lemmas.Nat.Bits.{bit_at_and, bit_at_or, bit_at_xor, bit_at_not, bit_at-lt, same_from_bits_below}
use Rattle.const_values.specs.Bitwise.{bit, flip, both, either, one_of}

pub bit-lt : (x : ℤ) (place : ℕ) → bit x place < 2
bit-lt (pos n) place = bit_at-lt n place
bit-lt (negsuc n) place = omega arith

pub bit-flip : (x : ℤ) (place : ℕ) → bit (flip x) place ≡ 1 - bit x place
bit-flip (pos n) place = refl
bit-flip (negsuc n) place = omega (arith, bit_at-lt n place)

pub bit-both : (x y : ℤ) (place : ℕ) → bit (both x y) place ≡ min (bit x place) (bit y place)
bit-both (pos m) (pos n) place = bit_at_and m n place
bit-both (pos m) (negsuc n) place =
    let lower = bit_at_and m n place in
    let is = bit_at_xor m (bit_and m n) place in
    omega (arith, bit_at-lt m place, bit_at-lt n place)
bit-both (negsuc m) (pos n) place =
    let lower = bit_at_and m n place in
    let is = bit_at_xor n (bit_and m n) place in
    omega (arith, bit_at-lt m place, bit_at-lt n place)
bit-both (negsuc m) (negsuc n) place =
    let is = bit_at_or m n place in
    omega (arith, bit_at-lt m place, bit_at-lt n place)

pub bit-either : (x y : ℤ) (place : ℕ) → bit (either x y) place ≡ max (bit x place) (bit y place)
bit-either x y place =
    let outer = bit-flip (both (flip x) (flip y)) place in
    let inner = bit-both (flip x) (flip y) place in
    let left = bit-flip x place in
    let right = bit-flip y place in
    omega (arith, bit-lt x place, bit-lt y place)

pub bit-one_of : (x y : ℤ) (place : ℕ) → bit (one_of x y) place ≡ (bit x place + bit y place) % 2
bit-one_of (pos m) (pos n) place = bit_at_xor m n place
bit-one_of (pos m) (negsuc n) place = let is = bit_at_xor m n place in omega (arith, bit_at-lt m place, bit_at-lt n place)
bit-one_of (negsuc m) (pos n) place = let is = bit_at_xor m n place in omega (arith, bit_at-lt m place, bit_at-lt n place)
bit-one_of (negsuc m) (negsuc n) place = let is = bit_at_xor m n place in omega (arith, bit_at-lt m place, bit_at-lt n place)

-- the word of a number has the number's bits
word_bits : (z : ℤ) → FitsSigned w128 z → (place : ℕ) → place < 128 → bit_at (of_z w128 z) place ≡ bit z place
word_bits (pos n) fits place within = refl
word_bits (negsuc n) fits place within =
    let below : n < 2 ^ 128 = omega (arith, fits.sfits) in
    let is : 2 ^ 128 - suc n ≡ 2 ^ 128 - 1 - n = omega arith in
    ap (λ word. bit_at word place) is ∙ bit_at_not w128 n place below within

word_below : (z : ℤ) → FitsSigned w128 z → of_z w128 z < 2 ^ 128
word_below (pos n) fits = omega (arith, fits.sfits)
word_below (negsuc n) fits = omega arith

-- so a word with these bits is the number's
number_of_bits : (z : ℤ) (word : ℕ) → FitsSigned w128 z → word < 2 ^ 128 → ((place : ℕ) → place < 128 → bit_at word place ≡ bit z place) → to_z w128 word ≡ z
number_of_bits z word fits below same =
    ap (to_z w128) (same_from_bits_below 128 word (of_z w128 z) below (word_below z fits) (λ place within. same place within ∙ sym (word_bits z fits place within)))
    ∙ to_z-of_z w128 z fits

fits_flip : (x : ℤ) → FitsSigned w128 x → FitsSigned w128 (flip x)
fits_flip (pos n) fits = record { sfits = fits.sfits }
fits_flip (negsuc n) fits = record { sfits = fits.sfits }

fits_both : (x y : ℤ) → FitsSigned w128 x → FitsSigned w128 y → FitsSigned w128 (both x y)
fits_both (pos m) (pos n) fx fy = record { sfits = omega (arith, and_le_l m n, fx.sfits) }
fits_both (pos m) (negsuc n) fx fy = record { sfits = xor_lt 127 m (bit_and m n) fx.sfits (omega (arith, and_le_l m n, fx.sfits)) }
fits_both (negsuc m) (pos n) fx fy = record { sfits = xor_lt 127 n (bit_and m n) fy.sfits (omega (arith, and_le_r m n, fy.sfits)) }
fits_both (negsuc m) (negsuc n) fx fy = record { sfits = or_lt 127 m n fx.sfits fy.sfits }

fits_one_of : (x y : ℤ) → FitsSigned w128 x → FitsSigned w128 y → FitsSigned w128 (one_of x y)
fits_one_of (pos m) (pos n) fx fy = record { sfits = xor_lt 127 m n fx.sfits fy.sfits }
fits_one_of (pos m) (negsuc n) fx fy = record { sfits = xor_lt 127 m n fx.sfits fy.sfits }
fits_one_of (negsuc m) (pos n) fx fy = record { sfits = xor_lt 127 m n fx.sfits fy.sfits }
fits_one_of (negsuc m) (negsuc n) fx fy = record { sfits = xor_lt 127 m n fx.sfits fy.sfits }

pub word_and : (x y : ℤ) → FitsSigned w128 x → FitsSigned w128 y → to_z w128 (bit_and (of_z w128 x) (of_z w128 y)) ≡ both x y
word_and x y fx fy =
    let below : bit_and (of_z w128 x) (of_z w128 y) < 2 ^ 128 = omega (arith, and_le_l (of_z w128 x) (of_z w128 y), word_below x fx) in
    number_of_bits (both x y) (bit_and (of_z w128 x) (of_z w128 y)) (fits_both x y fx fy) below
    (λ place within.
    let left = word_bits x fx place within in
    let right = word_bits y fy place within in
    rw (bit_at_and, left, right) (sym (bit-both x y place)))

pub word_or : (x y : ℤ) → FitsSigned w128 x → FitsSigned w128 y → to_z w128 (bit_or (of_z w128 x) (of_z w128 y)) ≡ either x y
word_or x y fx fy =
    number_of_bits (either x y) (bit_or (of_z w128 x) (of_z w128 y))
    (fits_flip (both (flip x) (flip y)) (fits_both (flip x) (flip y) (fits_flip x fx) (fits_flip y fy)))
    (or_lt 128 (of_z w128 x) (of_z w128 y) (word_below x fx) (word_below y fy))
    (λ place within.
    let left = word_bits x fx place within in
    let right = word_bits y fy place within in
    rw (bit_at_or, left, right) (sym (bit-either x y place)))

pub word_xor : (x y : ℤ) → FitsSigned w128 x → FitsSigned w128 y → to_z w128 (bit_xor (of_z w128 x) (of_z w128 y)) ≡ one_of x y
word_xor x y fx fy =
    number_of_bits (one_of x y) (bit_xor (of_z w128 x) (of_z w128 y)) (fits_one_of x y fx fy)
    (xor_lt 128 (of_z w128 x) (of_z w128 y) (word_below x fx) (word_below y fy))
    (λ place within.
    let left = word_bits x fx place within in
    let right = word_bits y fy place within in
    rw (bit_at_xor, left, right) (sym (bit-one_of x y place)))

word_not : (y : ℤ) → FitsSigned w128 y → of_z w128 (flip y) ≡ 2 ^ 128 - 1 - of_z w128 y
word_not (pos n) fits = omega arith
word_not (negsuc n) fits = omega (arith, fits.sfits)

pub word_and_not : (x y : ℤ) → FitsSigned w128 x → FitsSigned w128 y → to_z w128 (bit_and (of_z w128 x) (2 ^ 128 - 1 - of_z w128 y)) ≡ both x (flip y)
word_and_not x y fx fy = ap (λ word. to_z w128 (bit_and (of_z w128 x) word)) (sym (word_not y fy)) ∙ word_and x (flip y) fx (fits_flip y fy)
