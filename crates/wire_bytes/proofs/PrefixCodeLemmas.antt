-- Grammars that a reader reads back whatever follows are prefix codes.
use Rattle.std.proofs.Common.{◌≡◌, ℕ, ◌+◌, ◌*◌, ◌/◌, ◌%◌, ◌<◌, ◌^◌, List, [], ◌++◌, Bool, true, false, Option, Some, None, Ok, Err, refl, sym, ap, subst, ◌∙◌, arith}
use Rattle.std.specs.Prelude.{ℤ, pos, negsuc, ◌==◌, FitsSigned}
use Rattle.std.specs.Int.{w64}
use Rattle.std.proofs.lemmas.Int.{ints}
use Rattle.std.proofs.lemmas.List.{append-nil}
use Rattle.wire_bytes.specs.Uvarint.{Front, uvarint_in}
use Rattle.wire_bytes.specs.Begins.{IsPrefixCode}
use Rattle.wire_bytes.specs.Varint.{Varint, Flag, signed_of}
use Rattle.wire_bytes.proofs.Spellings.{uvarint_again, same_number, every_number}

-- a value that was read, and what follows it
abbrev pub Found : Type 0 → Type 0
Found X = Option (X × List ℕ)

abbrev found : {X : Type 0} → X × List ℕ → Found X
found p = Some p

found_is : {X : Type 0} (p q : X × List ℕ) → found p ≡ found q → p ≡ q
found_is p q e = cc

pub prefix_code : {X : Type 0} (Spells : List ℕ → X → Type 0) (read : List ℕ → Found X)
    → ((a b : List ℕ) (x : X) → Spells a x → Spells b x → a ≡ b)
    → ((a rest : List ℕ) (x : X) → Spells a x → read (a ++ rest) ≡ Some (x, rest))
    → IsPrefixCode Spells
prefix_code {X} Spells read one again = record {
  one = one;
  prefix = λ a b x y first second.
      let short : read (a ++ b) ≡ found (x, b) = again a b x first in
      let long : read (a ++ b) ≡ found (y, []) = subst (λ (t : List ℕ). read t ≡ found (y, [])) (append-nil (a ++ b)) (again (a ++ b) [] y second) in
      ap (λ (p : X × List ℕ). p.1) (found_is (x, b) (y, []) (sym short ∙ long));
  front = λ bytes rest others x y first second.
      let here : read bytes ≡ found (x, rest) = subst (λ (t : List ℕ). read t ≡ found (x, rest)) (sym first.2) (again first.0 rest x first.1) in
      let there : read bytes ≡ found (y, others) = subst (λ (t : List ℕ). read t ≡ found (y, others)) (sym second.2) (again second.0 others y second.1) in
      let both = found_is (x, rest) (y, others) (sym here ∙ there) in
      (ap (λ (p : X × List ℕ). p.0) both, ap (λ (p : X × List ℕ). p.1) both);
}

-- ---- signed numbers

pub signed_even : (n : ℕ) → signed_of (2 * n) ≡ pos n
signed_even n =
    let even : 2 * n % 2 ≡ 0 = omega arith in
    let half : 2 * n / 2 ≡ n = omega arith in
    rw (even, half) refl

pub signed_odd : (n : ℕ) → signed_of (2 * n + 1) ≡ negsuc n
signed_odd n =
    let odd : (2 * n + 1) % 2 ≡ 1 = omega arith in
    let half : (2 * n + 1) / 2 ≡ n = omega arith in
    rw (odd, half) refl

abbrev signed_front : Front → Found ℤ
signed_front (Ok (n, rest)) = Some (signed_of n, rest)
signed_front (Err e) = None

signed_again : (a rest : List ℕ) (x : ℤ) → Varint a x → signed_front (uvarint_in (a ++ rest)) ≡ Some (x, rest)
signed_again a rest (pos n) spelled = rw (uvarint_again a (2 * n) rest spelled, signed_even n) refl
signed_again a rest (negsuc n) spelled = rw (uvarint_again a (2 * n + 1) rest spelled, signed_odd n) refl

same_signed : (a b : List ℕ) (x : ℤ) → Varint a x → Varint b x → a ≡ b
same_signed a b (pos n) first second = same_number a b (2 * n) first second
same_signed a b (negsuc n) first second = same_number a b (2 * n + 1) first second

pub varint_code : IsPrefixCode Varint
varint_code = prefix_code Varint (λ bytes. signed_front (uvarint_in bytes)) same_signed signed_again

pub every_signed : (x : ℤ) → FitsSigned w64 x → (bytes : List ℕ) × Varint bytes x
every_signed (pos n) fits = let small : n < 2 ^ 63 = omega (arith, ints) in every_number (2 * n) (omega arith)
every_signed (negsuc n) fits = let small : n < 2 ^ 63 = omega (arith, ints) in every_number (2 * n + 1) (omega arith)

-- ---- flags

abbrev flag_front : Front → Found Bool
flag_front (Ok (n, rest)) = Some (n == 1, rest)
flag_front (Err e) = None

flag_again : (a rest : List ℕ) (flag : Bool) → Flag a flag → flag_front (uvarint_in (a ++ rest)) ≡ Some (flag, rest)
flag_again a rest false spelled = rw (uvarint_again a 0 rest spelled) refl
flag_again a rest true spelled = rw (uvarint_again a 1 rest spelled) refl

same_flag : (a b : List ℕ) (flag : Bool) → Flag a flag → Flag b flag → a ≡ b
same_flag a b false first second = same_number a b 0 first second
same_flag a b true first second = same_number a b 1 first second

pub flag_code : IsPrefixCode Flag
flag_code = prefix_code Flag (λ bytes. flag_front (uvarint_in bytes)) same_flag flag_again

pub every_flag : (flag : Bool) → (bytes : List ℕ) × Flag bytes flag
every_flag false = every_number 0 (omega arith)
every_flag true = every_number 1 (omega arith)
