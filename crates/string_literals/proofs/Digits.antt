-- One digit of an escape more, at the front of a slice.
use Rattle.std.proofs.Common.{◌≡◌, ◌≤◌, ◌<◌, ◌+◌, ◌-◌, ◌*◌, ℕ, zero, suc, true, false, ltb, List, [], ◌∷◌, length, take, drop, get_or, None, ⊎_elim, sym, ap, ◌∙◌, arith}
use Rattle.std.proofs.lemmas.Bool.{lt-ltb, le-ltb, cases_lt}
use Rattle.std.specs.Char.{digit_value}
use Rattle.string_literals.specs.Escapes.{digits}
use Rattle.string_literals.proofs.Passing.{behind_first}

pub digits_more : (base n value b digit : ℕ) (bs : List ℕ) → 1 ≤ length bs → b ≡ get_or bs 0 0 → 0 < n → digit_value b < base → digit ≡ digit_value b → digits base (n - 1) (value * base + digit) (take (length bs - 1) (drop 1 bs)) ≡ digits base n value bs
digits_more base zero value b digit bs long first some small is = absurd (omega arith)
digits_more base (suc n) value b digit [] long first some small is = absurd (omega arith)
digits_more base (suc n) value b digit (c ∷ bs) long first some small is =
    let fewer : suc n - 1 ≡ n = omega arith in
    let test : ltb (digit_value c) base ≡ true = ap (λ d. ltb (digit_value d) base) (sym first) ∙ lt-ltb (digit_value b) base small in
    rw (is, first, fewer, behind_first c bs, test)

pub digits_broken : (base n value b : ℕ) (bs : List ℕ) → 1 ≤ length bs → b ≡ get_or bs 0 0 → 0 < n → (digit_value b < base → ⊥) → None ≡ digits base n value bs
digits_broken base zero value b bs long first some other = absurd (omega arith)
digits_broken base (suc n) value b [] long first some other = absurd (omega arith)
digits_broken base (suc n) value b (c ∷ bs) long first some other =
    let test : ltb (digit_value c) base ≡ false = ap (λ d. ltb (digit_value d) base) (sym first) ∙ le-ltb (digit_value b) base (⊎_elim (λ h. absurd (other h)) (λ h. h) (cases_lt (digit_value b) base)) in
    rw test
