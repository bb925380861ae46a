-- The bytes of a whole number spell it.
use Rattle.std.proofs.Common.{◌≡◌, ℕ, zero, suc, ◌+◌, ◌*◌, ◌/◌, ◌%◌, ◌^◌, ◌≤◌, ◌<◌, Bool, true, false, cond, List, [], ◌∷◌, ◌++◌, length, get_or, refl, sym, ap, subst, ◌∙◌, arith, length-append, inl, inr, ◌⊎◌, add-one}
use Rattle.std.specs.Prelude.{ℤ, ◌==◌, IsTrue, unsigned_abs}
use Rattle.std.proofs.lemmas.Bool.{eqb-true, cases_lt, lt-ltb, le-ltb}
use Rattle.std.proofs.lemmas.Grind.{pow_more}
use Rattle.wire_bytes.specs.Whole.{Whole, IsGreatestLength, IsLong, IsShort, in_range, code_of, small_limit, size_in}
use Rattle.wire_bytes.proofs.Spellings.{IsBytes, IsBytes-rest}
use Rattle.wire_bytes.proofs.WholeLemmas.{size_append, size_some}
use Rattle.wire_bytes.proofs.WholeSpellings.{every_whole, size_fits}
use Rattle.file_layout.specs.Bytes.{size_bytes, behind_prefix, whole_bytes}

bytes_push : (bytes : List ℕ) (b : ℕ) → IsBytes bytes → b < 256 → IsBytes (bytes ++ b ∷ [])
bytes_push [] b fits small zero = small
bytes_push [] b fits small (suc i) = omega arith
bytes_push (x ∷ bytes) b fits small zero = fits 0
bytes_push (x ∷ bytes) b fits small (suc i) = bytes_push bytes b (IsBytes-rest x bytes fits) small i

first_stays : (bytes : List ℕ) (b : ℕ) → 0 < get_or bytes 0 0 → 0 < get_or (bytes ++ b ∷ []) 0 0
first_stays [] b some = absurd (omega arith)
first_stays (x ∷ bytes) b some = some

-- the bytes are those of the size, the highest is not 0
record IsSize (k n : ℕ) (size : List ℕ) : Type 0 where
  value : size_in size ≡ n
  few : length size ≤ k
  highest : 0 < get_or size 0 0
  of_bytes : IsBytes size

no_size : (k : ℕ) → size_bytes k 0 ≡ []
no_size zero = refl
no_size (suc k) = refl

zero_test : (n : ℕ) → 0 < n → (n == 0) ≡ false
zero_test n some = by (n == 0) refl
  where
    by : (b : Bool) → (n == 0) ≡ b → (n == 0) ≡ false
    by true e = let zero : n ≡ 0 = eqb-true n 0 e in absurd (omega (arith, some, zero))
    by false e = e

one_byte : (k n : ℕ) → 0 < n → n < 256 → IsSize (suc k) n (n ∷ [])
one_byte k n some low = record { value = omega arith; few = omega arith; highest = some; of_bytes = bytes_push [] n (λ i. omega arith) low }

size_is : (k n : ℕ) → 0 < n → n < 256 ^ k → IsSize k n (size_bytes k n)
size_is zero n some small = absurd (omega (arith, some, small))
size_is (suc k) n some small =
    let shape : size_bytes (suc k) n ≡ size_bytes k (n / 256) ++ (n % 256) ∷ [] = ap (λ (b : Bool). cond b [] (size_bytes k (n / 256) ++ (n % 256) ∷ [])) (zero_test n some) in
    subst (IsSize (suc k) n) (sym shape) (
    elim (cases_lt n 256) [
      | inl low ↦
          let none : n / 256 ≡ 0 = omega arith in
          let same : n % 256 ≡ n = omega arith in
          let alone : size_bytes k (n / 256) ++ (n % 256) ∷ [] ≡ n ∷ [] = ap (λ (m : ℕ). size_bytes k m ++ (n % 256) ∷ []) none ∙ ap (λ (xs : List ℕ). xs ++ (n % 256) ∷ []) (no_size k) ∙ ap (λ (m : ℕ). m ∷ []) same in
          subst (IsSize (suc k) n) (sym alone) (one_byte k n some low)
      | inr high ↦
          let power : 256 ^ suc k ≡ 256 ^ k * 256 = rw (← add-one k) (pow_more 256 k) in
          let inner = size_is k (n / 256) (omega arith) (omega (arith, power, small)) in
          record {
            value = size_append 0 (size_bytes k (n / 256)) ((n % 256) ∷ []) ∙ ap (λ (m : ℕ). m * 256 + n % 256) inner.value ∙ omega arith;
            few = omega (arith, length-append (size_bytes k (n / 256)) ((n % 256) ∷ []), inner.few);
            highest = first_stays (size_bytes k (n / 256)) (n % 256) inner.highest;
            of_bytes = bytes_push (size_bytes k (n / 256)) (n % 256) inner.of_bytes (omega arith);
          }
    ]
    )

abbrev chosen_bytes : Bool → ℕ → ℤ → Bool → List ℕ
chosen_bytes signed max v b = cond b (code_of signed v ∷ []) (behind_prefix signed v (size_bytes max (unsigned_abs v)))

pub whole_is : (signed : Bool) (max : ℕ) (v : ℤ) → IsGreatestLength max → IsTrue (in_range signed max v) → Whole signed max (whole_bytes signed max v) v
whole_is signed max v of inside =
    elim (cases_lt (code_of signed v) (small_limit signed max)) [
      | inl short ↦
          let shape : whole_bytes signed max v ≡ code_of signed v ∷ [] = ap (chosen_bytes signed max v) (lt-ltb (code_of signed v) (small_limit signed max) short) in
          record { of_type = inside; spelled = inl (shape, short) }
      | inr above ↦
          let some = abs_some above (every_whole signed max v of inside).1.spelled in
          let size = size_is max (unsigned_abs v) some (size_fits signed max v of inside) in
          record {
            of_type = inside;
            spelled = inr (record {
              size = size_bytes max (unsigned_abs v);
              spelled = ap (chosen_bytes signed max v) (le-ltb (code_of signed v) (small_limit signed max) above);
              value = size.value;
              few = size.few;
              highest = size.highest;
              of_bytes = size.of_bytes;
              above = above;
            });
          }
    ]
  where
    abs_some : {bytes : List ℕ} → small_limit signed max ≤ code_of signed v → IsShort signed max bytes v ⊎ IsLong signed max bytes v → 0 < unsigned_abs v
    abs_some above (inl short) = absurd (omega (arith, above, short.1))
    abs_some above (inr long) = omega (arith, long.value, size_some long.size long.highest)
