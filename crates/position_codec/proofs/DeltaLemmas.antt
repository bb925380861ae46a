-- From one line or column to the next, and back.
use Rattle.std.proofs.Common.{◌≡◌, ◌≢◌, ℕ, zero, suc, ◌+◌, ◌-◌, ◌*◌, ◌/◌, ◌%◌, ◌^◌, ◌<◌, ◌≤◌, Bool, true, false, cond, ltb, Some, None, refl, sym, ap, ◌∙◌, arith, inl, inr, w64}
use Rattle.std.specs.Prelude.{ℤ, pos, negsuc, FitsSigned, ◌==◌}
use Rattle.std.proofs.lemmas.Int.{ints}
use Rattle.std.proofs.lemmas.Bool.{lt-ltb, ltb-true, eqb-true, eqb-false, eq-eqb, ne_eqb, cases_lt}
use Rattle.wire_bytes.specs.Varint.{number_of}
use Rattle.wire_bytes.proofs.Steps.{chosen}
use Rattle.position_codec.specs.Place.{delta, half, is_odd, moved}

some_is : (m n : ℕ) → Some m ≡ Some n → m ≡ n
some_is m n e = cc

up_even : (from to n : ℕ) → from + n / 2 ≡ to → n % 2 ≢ 1 → pos n ≡ delta from to false
up_even from to n e even = omega (arith, ints)

up_odd : (from to n : ℕ) → from + n / 2 ≡ to → n % 2 ≡ 1 → pos n ≡ delta from to true
up_odd from to n e odd = omega (arith, ints)

down_even : (from to n : ℕ) → n / 2 < from → from - (n / 2 + 1) ≡ to → n % 2 ≢ 0 → negsuc n ≡ delta from to false
down_even from to n less e odd = omega (arith, ints)

down_odd : (from to n : ℕ) → n / 2 < from → from - (n / 2 + 1) ≡ to → n % 2 ≡ 0 → negsuc n ≡ delta from to true
down_odd from to n less e even = omega (arith, ints)

-- a number that moves one to another is spelled as their difference
pub delta_is : (from to : ℕ) (x : ℤ) → moved from (half x) ≡ Some to → x ≡ delta from to (is_odd x)
delta_is from to (pos n) e =
    elim (chosen (ltb (from + n / 2) (2 ^ 32)) (Some (from + n / 2)) None (Some to) e) [
      | inl small ↦ by (n % 2 == 1) refl (some_is (from + n / 2) to small.1)
      | inr large ↦ absurd (let no = large.1 in cc)
    ]
  where
    by : (b : Bool) → (n % 2 == 1) ≡ b → from + n / 2 ≡ to → pos n ≡ delta from to b
    by true odd e = up_odd from to n e (eqb-true (n % 2) 1 odd)
    by false even e = up_even from to n e (eqb-false (n % 2) 1 even)
delta_is from to (negsuc n) e =
    elim (chosen (ltb (n / 2) from) (Some (from - (n / 2 + 1))) None (Some to) e) [
      | inl less ↦ by (n % 2 == 0) refl (ltb-true (n / 2) from less.0) (some_is (from - (n / 2 + 1)) to less.1)
      | inr large ↦ absurd (let no = large.1 in cc)
    ]
  where
    by : (b : Bool) → (n % 2 == 0) ≡ b → n / 2 < from → from - (n / 2 + 1) ≡ to → negsuc n ≡ delta from to b
    by true even less e = down_odd from to n less e (eqb-true (n % 2) 0 even)
    by false odd less e = down_even from to n less e (eqb-false (n % 2) 0 odd)

-- ---- the difference moves the one to the other

abbrev bit : Bool → ℕ
bit more = cond more 1 0

delta_up : (from to : ℕ) (more : Bool) → from ≤ to → delta from to more ≡ pos (2 * (to - from) + bit more)
delta_up from to true le = omega (arith, ints)
delta_up from to false le = omega (arith, ints)

delta_down : (from to : ℕ) (more : Bool) → to < from → delta from to more ≡ negsuc (2 * (from - to) - 1 - bit more)
delta_down from to true lt = omega (arith, ints)
delta_down from to false lt = omega (arith, ints)

-- it is a number of 64 bits
pub delta_fits : (from to : ℕ) (more : Bool) → from < 2 ^ 32 → to < 2 ^ 32 → FitsSigned w64 (delta from to more)
delta_fits from to true small small' = omega (arith, ints)
delta_fits from to false small small' = omega (arith, ints)

moved_up : (from to n : ℕ) → from + n / 2 ≡ to → to < 2 ^ 32 → moved from (half (pos n)) ≡ Some to
moved_up from to n e small =
    ap (λ (b : Bool). cond b (Some (from + n / 2)) None) (lt-ltb (from + n / 2) (2 ^ 32) (omega arith)) ∙ ap (λ (m : ℕ). Some m) e

moved_down : (from to n : ℕ) → n / 2 < from → from - (n / 2 + 1) ≡ to → moved from (half (negsuc n)) ≡ Some to
moved_down from to n less e =
    ap (λ (b : Bool). cond b (Some (from - (n / 2 + 1))) None) (lt-ltb (n / 2) from less) ∙ ap (λ (m : ℕ). Some m) e

pub moved_again : (from to : ℕ) (more : Bool) → to < 2 ^ 32 → moved from (half (delta from to more)) ≡ Some to
moved_again from to more small =
    elim (cases_lt to from) [
      | inl lt ↦ ap (λ (x : ℤ). moved from (half x)) (delta_down from to more lt) ∙ down more lt
      | inr le ↦ ap (λ (x : ℤ). moved from (half x)) (delta_up from to more le) ∙ up more le
    ]
  where
    up : (more : Bool) → from ≤ to → moved from (half (pos (2 * (to - from) + bit more))) ≡ Some to
    up true le = moved_up from to (2 * (to - from) + 1) (omega arith) small
    up false le = moved_up from to (2 * (to - from) + 0) (omega arith) small

    down : (more : Bool) → to < from → moved from (half (negsuc (2 * (from - to) - 1 - bit more))) ≡ Some to
    down true lt = moved_down from to (2 * (from - to) - 1 - 1) (omega arith) (omega arith)
    down false lt = moved_down from to (2 * (from - to) - 1 - 0) (omega arith) (omega arith)

pub odd_again : (from to : ℕ) (more : Bool) → is_odd (delta from to more) ≡ more
odd_again from to more =
    elim (cases_lt to from) [
      | inl lt ↦ ap is_odd (delta_down from to more lt) ∙ down more lt
      | inr le ↦ ap is_odd (delta_up from to more le) ∙ up more le
    ]
  where
    up : (more : Bool) → from ≤ to → is_odd (pos (2 * (to - from) + bit more)) ≡ more
    up true le = eq-eqb ((2 * (to - from) + 1) % 2) 1 (omega arith)
    up false le = ne_eqb ((2 * (to - from) + 0) % 2) 1 (omega arith)

    down : (more : Bool) → to < from → is_odd (negsuc (2 * (from - to) - 1 - bit more)) ≡ more
    down true lt = eq-eqb ((2 * (from - to) - 1 - 1) % 2) 0 (omega arith)
    down false lt = ne_eqb ((2 * (from - to) - 1 - 0) % 2) 0 (omega arith)

-- a number is 0 only where nothing changes and nothing follows
pub number_zero : (x : ℤ) → x ≡ pos 0 → (number_of x == 0) ≡ true
number_zero x e = ap (λ (y : ℤ). number_of y == 0) e

pub number_some : (x : ℤ) → x ≢ pos 0 → (number_of x == 0) ≡ false
number_some (pos zero) ne = absurd (ne refl)
number_some (pos (suc n)) ne = ne_eqb (2 * suc n) 0 (omega arith)
number_some (negsuc n) ne = ne_eqb (2 * n + 1) 0 (omega arith)

pub line_moves : (from to : ℕ) (x : ℤ) → x ≡ delta from to false → x ≢ pos 0 → to ≢ from
line_moves from to x e ne same =
    let none : delta from to false ≡ pos 0 = let le : from ≤ to = omega arith in delta_up from to false le ∙ ap pos (omega arith) in
    ne (e ∙ none)

pub line_some : (from to : ℕ) → to ≢ from → delta from to false ≢ pos 0
line_some from to ne e = absurd (elim (cases_lt to from) [
  | inl lt ↦ let no = sym (delta_down from to false lt) ∙ e in cc
  | inr le ↦ let no : 2 * (to - from) + 0 ≡ 0 = pos_is _ _ (sym (delta_up from to false le) ∙ e) in omega arith
])
  where
    pos_is : (m n : ℕ) → pos m ≡ pos n → m ≡ n
    pos_is m n e = cc

pub line_and_more : (from to : ℕ) → delta from to true ≢ pos 0
line_and_more from to e = absurd (elim (cases_lt to from) [
  | inl lt ↦ let no = sym (delta_down from to true lt) ∙ e in cc
  | inr le ↦ let no : 2 * (to - from) + 1 ≡ 0 = pos_is _ _ (sym (delta_up from to true le) ∙ e) in omega arith
])
  where
    pos_is : (m n : ℕ) → pos m ≡ pos n → m ≡ n
    pos_is m n e = cc
