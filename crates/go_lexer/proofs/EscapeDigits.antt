-- One digit of an escape more.
use Rattle.std.proofs.Common.{◌≡◌, ◌≤◌, ◌<◌, ◌+◌, ◌-◌, ◌*◌, ◌^◌, ℕ, zero, suc, List, [], ◌∷◌, refl, arith, ltb}
use Rattle.std.proofs.Common.{⊎_elim, true, false}
use Rattle.std.proofs.lemmas.Bool.{lt-ltb, le-ltb, cases_lt}
use Rattle.std.proofs.lemmas.Nat.{pow-add}
use Rattle.std.proofs.Math.Nat.{mul-le-mul, pow-le-pow_right}
use Rattle.std.specs.Char.{digit_value}
use Rattle.go_lexer.specs.Escapes.{number, broken, short, digits}

pub digits_more : (base n value c : ℕ) (cs rest : List ℕ) → cs ≡ c ∷ rest → 0 < n → digit_value c < base → digits base (n - 1) (value * base + digit_value c) rest ≡ digits base n value cs
digits_more base zero value c cs rest e some digit = absurd (omega arith)
digits_more base (suc n) value c cs rest e some digit =
    let one : suc n - 1 ≡ n = omega arith in
    let test : ltb (digit_value c) base ≡ true = lt-ltb (digit_value c) base digit in
    rw (e, test, one)

pub digits_broken : (base n value c : ℕ) (cs rest : List ℕ) → cs ≡ c ∷ rest → 0 < n → (digit_value c < base → ⊥) → broken ≡ digits base n value cs
digits_broken base zero value c cs rest e some other = absurd (omega arith)
digits_broken base (suc n) value c cs rest e some other =
    let test : ltb (digit_value c) base ≡ false = le-ltb (digit_value c) base (⊎_elim (λ h. absurd (other h)) (λ h. h) (cases_lt (digit_value c) base)) in
    rw (e, test)

pub digits_short : (base n value : ℕ) (cs : List ℕ) → cs ≡ [] → 0 < n → short ≡ digits base n value cs
digits_short base zero value cs e some = absurd (omega arith)
digits_short base (suc n) value cs e some = rw e

pub digits_done : (base n value : ℕ) (cs : List ℕ) → n ≡ 0 → number value cs ≡ digits base n value cs
digits_done base zero value cs e = refl
digits_done base (suc n) value cs e = absurd (omega arith)

-- one digit of a base up to 16 more, below a power of 16
pub next_small : (value base digit k : ℕ) → base ≤ 16 → digit < base → value < 16 ^ k → value * base + digit < 16 ^ (k + 1)
next_small value base digit k b d v =
    let step : (value + 1) * base ≤ 16 ^ k * 16 = mul-le-mul {n₁ = value + 1} {m₁ = base} {n₂ = 16 ^ k} {m₂ = 16} (omega arith) b in
    let power : 16 ^ (k + 1) ≡ 16 ^ k * 16 = pow-add 16 k 1 in
    omega (arith, step, power)

pub digits_fit : (value k : ℕ) → k ≤ 8 → value < 16 ^ k → value < 2 ^ 32
digits_fit value k h v = let most : 16 ^ k ≤ 16 ^ 8 = pow-le-pow_right {n = 16} (omega arith) h in omega (arith, most)
