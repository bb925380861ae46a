-- Reading bytes, numbers, flags and constants depends only on the bytes up to where it ends.
use Rattle.std.proofs.Common.{◌≡◌, ℕ, zero, suc, ◌+◌, ◌-◌, ◌*◌, ◌^◌, ◌<◌, ◌≤◌, Bool, true, false, cond, ltb, List, [], ◌∷◌, ◌++◌, length, take, drop, append_assoc, ◌⊎◌, Ok, Err, refl, sym, ap, subst, ◌∙◌, arith, inl, inr, add-one}
use Rattle.std.specs.Prelude.{nat_lt, ◌==◌, ℤ}
use Rattle.std.proofs.Math.Nat.{pow-le-pow_right}
use Rattle.std.proofs.lemmas.Bool.{ltb-true, ltb-false, lt-ltb, le-ltb}
use Rattle.std.proofs.lemmas.Grind.{pow_more}
use Rattle.std.proofs.lemmas.List.{length-append, length-drop, take-append-drop}
use Rattle.wire_bytes.specs.declared.fault.ByteFault.{ByteFault}
use Rattle.wire_bytes.specs.declared.fault.ByteFault.TheVariants as faults
use Rattle.wire_bytes.specs.declared.number.Unspelled.TheVariants.{Cut, Wrong}
use Rattle.wire_bytes.specs.Reading.{Spot, place, onward, ◌>>=◌, byte_of, byte_at, bytes_at}
use Rattle.wire_bytes.specs.Uvarint.{Front, behind, groups_in, of_64_bits, uvarint_in, uvarint_from, uvarint_at}
use Rattle.wire_bytes.specs.Varint.{signed_of, varint_at, flag_of, flag_at}
use Rattle.wire_bytes.specs.Whole.{small_limit, length_behind, value_of, judged, long_at, whole_at}
use Rattle.wire_bytes.specs.Local.{with_more, is_ended, wants_more, AreBytes, IsAmong, IsLocal}
use Rattle.wire_bytes.proofs.Steps.{bind_ok, chosen, done_is}
use Rattle.wire_bytes.proofs.Spellings.{front, front_is, behind_ok, behind_cut, of_64_bits_ok, of_64_bits_cut}
use Rattle.wire_bytes.proofs.CursorLemmas.{byte_at_again, bytes_at_again}
use Rattle.wire_bytes.proofs.WholeLemmas.{judged_ways}
use Rattle.wire_bytes.proofs.LocalLemmas.{TakesSome, StandsAt, IsLocalFrom, done_local, then_from, then_local, from_then, from_local, from_judged, fault_is, failed, place_more}

-- the same part, where what is left is some bytes and then these
onward_more : (s after : Spot) (more : List ℕ) → after.end ≡ s.end → onward (with_more s more) (after.left ++ more) ≡ with_more after more
onward_more s after more e = ap (λ (n : ℕ). record { end = n + length more; left = after.left ++ more }) (sym e)

one_byte : AreBytes (0 ∷ [])
one_byte zero = omega arith
one_byte (suc i) = omega arith

-- ---- a byte

pub byte_ahead : (s after : Spot) (b : ℕ) → byte_at s ≡ Ok (b, after) → (after.end ≡ s.end) × (s.left ≡ b ∷ after.left)
byte_ahead s after b e = go s.left refl e
  where
    go : (bytes : List ℕ) → s.left ≡ bytes → byte_of s bytes ≡ Ok (b, after) → (after.end ≡ s.end) × (bytes ≡ b ∷ after.left)
    go [] is e = absurd cc
    go (c ∷ rest) is e =
        let same = done_is (c, onward s rest) (b, after) e in
        (sym (ap (λ (p : ℕ × Spot). p.1.end) same), ap (λ (p : ℕ × Spot). p.0 ∷ p.1.left) same)

pub byte_fault : (s : Spot) (f : ByteFault) → byte_at s ≡ Err f → (f ≡ faults.Ended s.end) × (s.left ≡ [])
byte_fault s f e = go s.left refl e
  where
    go : (bytes : List ℕ) → s.left ≡ bytes → byte_of s bytes ≡ Err f → (f ≡ faults.Ended s.end) × (bytes ≡ [])
    go [] is e = (sym (fault_is (faults.Ended s.end) f e), refl)
    go (c ∷ rest) is e = absurd cc

pub byte_some : TakesSome byte_at
byte_some s after b e = let read = byte_ahead s after b e in omega (arith, ap length read.1)

byte_more : (s : Spot) → wants_more (byte_at s) ≡ true → wants_more (byte_at (with_more s (0 ∷ []))) ≡ false
byte_more s e = go s.left
  where
    go : (bytes : List ℕ) → wants_more (byte_of (with_more s (0 ∷ [])) (bytes ++ 0 ∷ [])) ≡ false
    go [] = refl
    go (c ∷ rest) = refl

byte_plain : (s : Spot) (f : ByteFault) → byte_at s ≡ Err f → is_ended f ≡ false → ⊥
byte_plain s f e plain = absurd (let is = (byte_fault s f e).0 in let no : is_ended f ≡ true = ap is_ended is in cc)

ended_at : (a b : ℕ) → faults.Ended a ≡ faults.Ended b → a ≡ b
ended_at a b e = cc

pub byte_local : IsLocal byte_at
byte_local = record {
  steady = record {
    ahead = λ s after b e. let read = byte_ahead s after b e in record { front = b ∷ []; same_end = read.0; behind = read.1 };
    stays = λ s after b more e.
        let read = byte_ahead s after b e in
        byte_at_again (with_more s more) b (after.left ++ more) (ap (λ (left : List ℕ). left ++ more) read.1)
        ∙ ap (λ (t : Spot). Ok (b, t)) (onward_more s after more read.0);
    refused = λ s f more e plain. elim (byte_plain s f e plain) [ ];
    end = λ s at e. ended_at at s.end (byte_fault s (faults.Ended at) e).0;
    goes_on = λ s e. (0 ∷ [], one_byte, byte_more s e);
  };
  inside = λ s f fits e plain. elim (byte_plain s f e plain) [ ];
}

-- ---- some bytes

pub bytes_ahead : (n : ℕ) (s after : Spot) (taken : List ℕ) → bytes_at n s ≡ Ok (taken, after) → (after.end ≡ s.end) × (s.left ≡ taken ++ after.left) × (length taken ≡ n)
bytes_ahead n s after taken e =
    elim (chosen (ltb (length s.left) n) _ _ _ e) [
      | inl short ↦ absurd (let no = short.1 in cc)
      | inr fine ↦
          let enough : n ≤ length s.left = ltb-false (length s.left) n fine.0 in
          let same = done_is (take n s.left, onward s (drop n s.left)) (taken, after) fine.1 in
          let split = take-append-drop n s.left in (
            sym (ap (λ (p : List ℕ × Spot). p.1.end) same),
            sym split ∙ ap (λ (p : List ℕ × Spot). p.0 ++ p.1.left) same,
            sym (ap (λ (p : List ℕ × Spot). length p.0) same) ∙ omega (arith, enough, ap length split, length-append (take n s.left) (drop n s.left), length-drop n s.left),
          )
    ]

pub bytes_fault : (n : ℕ) (s : Spot) (f : ByteFault) → bytes_at n s ≡ Err f → (f ≡ faults.Ended s.end) × (length s.left < n)
bytes_fault n s f e =
    elim (chosen (ltb (length s.left) n) _ _ _ e) [
      | inl short ↦ (sym (fault_is (faults.Ended s.end) f short.1), ltb-true (length s.left) n short.0)
      | inr fine ↦ absurd (let no = fine.1 in cc)
    ]

bytes_plain : (n : ℕ) (s : Spot) (f : ByteFault) → bytes_at n s ≡ Err f → is_ended f ≡ false → ⊥
bytes_plain n s f e plain = absurd (let is = (bytes_fault n s f e).0 in let no : is_ended f ≡ true = ap is_ended is in cc)

zeros : ℕ → List ℕ
zeros zero = []
zeros (suc n) = 0 ∷ zeros n

zeros_bytes : (n : ℕ) → AreBytes (zeros n)
unfolding zeros
zeros_bytes zero i = omega arith
zeros_bytes (suc n) zero = omega arith
zeros_bytes (suc n) (suc i) = zeros_bytes n i

zeros_length : (n : ℕ) → length (zeros n) ≡ n
unfolding zeros
zeros_length zero = refl
zeros_length (suc n) = ap suc (zeros_length n)

bytes_enough : (n : ℕ) (s : Spot) → n ≤ length s.left → wants_more (bytes_at n s) ≡ false
bytes_enough n s enough = rw (le-ltb (length s.left) n enough) refl

pub bytes_local : (n : ℕ) → IsLocal (bytes_at n)
bytes_local n = record {
  steady = record {
    ahead = λ s after taken e. let read = bytes_ahead n s after taken e in record { front = taken; same_end = read.0; behind = read.1 };
    stays = λ s after taken more e.
        let read = bytes_ahead n s after taken e in
        bytes_at_again n (with_more s more) taken (after.left ++ more) (ap (λ (left : List ℕ). left ++ more) read.1 ∙ append_assoc taken after.left more) read.2
        ∙ ap (λ (t : Spot). Ok (taken, t)) (onward_more s after more read.0);
    refused = λ s f more e plain. elim (bytes_plain n s f e plain) [ ];
    end = λ s at e. ended_at at s.end (bytes_fault n s (faults.Ended at) e).0;
    goes_on = λ s e. (zeros n, zeros_bytes n, bytes_enough n (with_more s (zeros n)) (omega (arith, length-append s.left (zeros n), zeros_length n)));
  };
  inside = λ s f fits e plain. elim (bytes_plain n s f e plain) [ ];
}

-- ---- a number of any size

groups_more : (bytes more : List ℕ) (n : ℕ) (rest : List ℕ) → groups_in bytes ≡ Ok (n, rest) → groups_in (bytes ++ more) ≡ Ok (n, rest ++ more)
groups_more [] more n rest e = absurd cc
groups_more (b ∷ bytes) more n rest e =
    elim (chosen (ltb b 128) (Ok (b, bytes)) (behind b (groups_in bytes)) (Ok (n, rest)) e) [
      | inl low ↦
          let same = front_is (b, bytes) (n, rest) low.1 in
          rw low.0 (ap (λ (p : ℕ × List ℕ). front (p.0, p.1 ++ more)) same)
      | inr high ↦
          let inner = behind_ok b n (groups_in bytes) rest high.1 in
          let all : groups_in (bytes ++ more) ≡ Ok (suc inner.0, rest ++ more) = groups_more bytes more (suc inner.0) rest inner.1 in
          rw (high.0, all) (ap (λ (v : ℕ). front (v, rest ++ more)) (sym inner.2))
    ]

behind_wrong : (b : ℕ) (r : Front) → behind b r ≡ Err Wrong → (r ≡ Err Wrong) ⊎ ((rest : List ℕ) × (r ≡ Ok (0, rest)))
behind_wrong b (Ok (zero, bytes)) e = inr (bytes, refl)
behind_wrong b (Ok (suc h, bytes)) e = absurd cc
behind_wrong b (Err Cut) e = absurd cc
behind_wrong b (Err Wrong) e = inl refl

groups_wrong : (bytes more : List ℕ) → groups_in bytes ≡ Err Wrong → groups_in (bytes ++ more) ≡ Err Wrong
groups_wrong [] more e = absurd cc
groups_wrong (b ∷ bytes) more e =
    elim (chosen (ltb b 128) (Ok (b, bytes)) (behind b (groups_in bytes)) (Err Wrong) e) [
      | inl low ↦ absurd (let no = low.1 in cc)
      | inr high ↦ elim (behind_wrong b (groups_in bytes) high.1) [
        | inl inner ↦ let all = groups_wrong bytes more inner in rw (high.0, all) refl
        | inr none ↦ let all : groups_in (bytes ++ more) ≡ Ok (0, none.0 ++ more) = groups_more bytes more 0 none.0 none.1 in rw (high.0, all) refl
      ]
    ]

-- bytes that only lack some are ended by a byte 1
groups_one : (bytes : List ℕ) → groups_in bytes ≡ Err Cut → (n : ℕ) × (groups_in (bytes ++ 1 ∷ []) ≡ Ok (suc n, []))
groups_one [] e = (0, refl)
groups_one (b ∷ bytes) e =
    elim (chosen (ltb b 128) (Ok (b, bytes)) (behind b (groups_in bytes)) (Err Cut) e) [
      | inl low ↦ absurd (let no = low.1 in cc)
      | inr high ↦
          let inner = groups_one bytes (behind_cut b (groups_in bytes) high.1) in
          let all : groups_in ((b ∷ bytes) ++ 1 ∷ []) ≡ Ok (b - 128 + 128 * suc inner.0, []) = rw (high.0, inner.1) refl in
          (b - 128 + 128 * inner.0 + 127, all ∙ ap (λ (v : ℕ). front (v, [])) (omega arith))
    ]

-- so many bytes with their top bits set begin a large number, if any
groups_long : (bytes more : List ℕ) (n : ℕ) (rest : List ℕ) → groups_in bytes ≡ Err Cut → groups_in (bytes ++ more) ≡ Ok (suc n, rest) → 128 ^ length bytes ≤ suc n
groups_long [] more n rest cut e = omega arith
groups_long (b ∷ bytes) more n rest cut e =
    elim (chosen (ltb b 128) (Ok (b, bytes)) (behind b (groups_in bytes)) (Err Cut) cut) [
      | inl low ↦ absurd (let no = low.1 in cc)
      | inr high ↦
          let here : behind b (groups_in (bytes ++ more)) ≡ Ok (suc n, rest) = sym (ap (λ (c : Bool). cond c (front (b, bytes ++ more)) (behind b (groups_in (bytes ++ more)))) high.0) ∙ e in
          let inner = behind_ok b (suc n) (groups_in (bytes ++ more)) rest here in
          let large = groups_long bytes more inner.0 rest (behind_cut b (groups_in bytes) high.1) inner.1 in
          let power : 128 ^ suc (length bytes) ≡ 128 ^ length bytes * 128 = rw (← add-one (length bytes)) (pow_more 128 (length bytes)) in
          rw power (omega (arith, large, inner.2))
    ]

groups_zero : (b : ℕ) (bytes more : List ℕ) (rest : List ℕ) → groups_in (b ∷ bytes) ≡ Err Cut → groups_in ((b ∷ bytes) ++ more) ≡ Ok (0, rest) → ⊥
groups_zero b bytes more rest cut e =
    elim (chosen (ltb b 128) (Ok (b, bytes)) (behind b (groups_in bytes)) (Err Cut) cut) [
      | inl low ↦ absurd (let no = low.1 in cc)
      | inr high ↦
          let here : behind b (groups_in (bytes ++ more)) ≡ Ok (0, rest) = sym (ap (λ (c : Bool). cond c (front (b, bytes ++ more)) (behind b (groups_in (bytes ++ more)))) high.0) ∙ e in
          let inner = behind_ok b 0 (groups_in (bytes ++ more)) rest here in
          absurd (omega (arith, inner.2))
    ]

-- ---- a number of 64 bits

uvarint_more : (bytes more : List ℕ) (n : ℕ) (rest : List ℕ) → uvarint_in bytes ≡ Ok (n, rest) → uvarint_in (bytes ++ more) ≡ Ok (n, rest ++ more)
unfolding uvarint_in
uvarint_more bytes more n rest e =
    let number = of_64_bits_ok (length bytes) n (groups_in bytes) rest e in
    let all : groups_in (bytes ++ more) ≡ Ok (n, rest ++ more) = groups_more bytes more n rest number.0 in
    rw (all, lt-ltb n (2 ^ 64) number.1) refl

uvarint_wrong : (bytes more : List ℕ) → uvarint_in bytes ≡ Err Wrong → uvarint_in (bytes ++ more) ≡ Err Wrong
unfolding uvarint_in
uvarint_wrong bytes more e = by (groups_in bytes) refl e
  where
    by : (r : Front) → groups_in bytes ≡ r → of_64_bits (length bytes) r ≡ Err Wrong → of_64_bits (length (bytes ++ more)) (groups_in (bytes ++ more)) ≡ Err Wrong
    by (Ok (n, rest)) is e =
        let all : groups_in (bytes ++ more) ≡ Ok (n, rest ++ more) = groups_more bytes more n rest is in
        elim (chosen (ltb n (2 ^ 64)) (Ok (n, rest)) (Err Wrong) (Err Wrong) e) [
          | inl small ↦ absurd (let no = small.1 in cc)
          | inr large ↦ rw (all, large.0) refl
        ]
    by (Err Wrong) is e = rw (groups_wrong bytes more is) refl
    by (Err Cut) is e =
        elim (chosen (ltb (length bytes) 10) (Err Cut) (Err Wrong) (Err Wrong) e) [
          | inl short ↦ absurd (let no = short.1 in cc)
          | inr long ↦ too_long (ltb-false (length bytes) 10 long.0) is (groups_in (bytes ++ more)) refl
        ]
      where
        too_long : 10 ≤ length bytes → groups_in bytes ≡ Err Cut → (r : Front) → groups_in (bytes ++ more) ≡ r → of_64_bits (length (bytes ++ more)) r ≡ Err Wrong
        too_long long cut (Ok (zero, rest)) is = absurd (none bytes long cut is)
          where
            none : (bytes : List ℕ) → 10 ≤ length bytes → groups_in bytes ≡ Err Cut → groups_in (bytes ++ more) ≡ Ok (0, rest) → ⊥
            none [] long cut is = absurd (omega arith)
            none (b ∷ bytes) long cut is = groups_zero b bytes more rest cut is
        too_long long cut (Ok (suc n, rest)) is =
            let large = groups_long bytes more n rest cut is in
            let some : 0 < 128 = omega arith in
            let bound : 128 ^ 10 ≤ 128 ^ length bytes = pow-le-pow_right some long in
            let beyond : 2 ^ 64 ≤ suc n = omega (arith, large, bound) in
            rw (le-ltb (suc n) (2 ^ 64) beyond) refl
        too_long long cut (Err Wrong) is = refl
        too_long long cut (Err Cut) is =
            rw (le-ltb (length (bytes ++ more)) 10 (omega (arith, long, length-append bytes more))) refl

uvarint_one : (bytes : List ℕ) → uvarint_in bytes ≡ Err Cut → uvarint_in (bytes ++ 1 ∷ []) ≡ Err Cut → ⊥
unfolding uvarint_in
uvarint_one bytes e again =
    let short = of_64_bits_cut (length bytes) (groups_in bytes) e in
    let one = groups_one bytes short.0 in
    let cut = of_64_bits_cut (length (bytes ++ 1 ∷ [])) (groups_in (bytes ++ 1 ∷ [])) again in
    absurd (let number = one.1 in let none = cut.0 in cc)

-- what reading says
from_ahead : (s : Spot) (r : Front) (n : ℕ) (after : Spot) → uvarint_from s r ≡ Ok (n, after) → (r ≡ Ok (n, after.left)) × (after.end ≡ s.end)
from_ahead s (Ok (v, rest)) n after e =
    let same = done_is (v, onward s rest) (n, after) e in
    (ap (λ (p : ℕ × Spot). Ok (p.0, p.1.left)) same, sym (ap (λ (p : ℕ × Spot). p.1.end) same))
from_ahead s (Err Cut) n after e = absurd cc
from_ahead s (Err Wrong) n after e = absurd cc

from_plain : (s : Spot) (r : Front) (f : ByteFault) → uvarint_from s r ≡ Err f → is_ended f ≡ false → (r ≡ Err Wrong) × (f ≡ faults.Number (place s))
from_plain s (Ok (v, rest)) f e plain = absurd cc
from_plain s (Err Cut) f e plain = absurd (let is = fault_is (faults.Ended s.end) f e in let no : is_ended f ≡ true = ap is_ended (sym is) in cc)
from_plain s (Err Wrong) f e plain = (refl, sym (fault_is (faults.Number (place s)) f e))

from_end : (s : Spot) (r : Front) (at : ℕ) → uvarint_from s r ≡ Err (faults.Ended at) → at ≡ s.end
from_end s (Ok (v, rest)) at e = absurd cc
from_end s (Err Cut) at e = sym (ended_at s.end at (fault_is (faults.Ended s.end) (faults.Ended at) e))
from_end s (Err Wrong) at e = absurd cc

from_wants : (s : Spot) (r : Front) → wants_more (uvarint_from s r) ≡ true → r ≡ Err Cut
from_wants s (Ok (v, rest)) e = absurd cc
from_wants s (Err Cut) e = refl
from_wants s (Err Wrong) e = absurd cc

from_enough : (s : Spot) (r : Front) → (r ≡ Err Cut → ⊥) → wants_more (uvarint_from s r) ≡ false
from_enough s (Ok (v, rest)) e = refl
from_enough s (Err Cut) e = elim (e refl) [ ]
from_enough s (Err Wrong) e = refl

groups_rest : (bytes : List ℕ) (n : ℕ) (rest : List ℕ) → groups_in bytes ≡ Ok (n, rest) → (b : ℕ) × (front : List ℕ) × (bytes ≡ (b ∷ front) ++ rest)
groups_rest [] n rest e = absurd cc
groups_rest (b ∷ bytes) n rest e =
    elim (chosen (ltb b 128) (Ok (b, bytes)) (behind b (groups_in bytes)) (Ok (n, rest)) e) [
      | inl low ↦ (b, [], ap (λ (p : ℕ × List ℕ). b ∷ p.1) (front_is (b, bytes) (n, rest) low.1))
      | inr high ↦
          let inner = behind_ok b n (groups_in bytes) rest high.1 in
          let all = groups_rest bytes (suc inner.0) rest inner.1 in
          (b, all.0 ∷ all.1, ap (λ (bytes : List ℕ). b ∷ bytes) all.2)
    ]

uvarint_rest : (bytes : List ℕ) (n : ℕ) (rest : List ℕ) → uvarint_in bytes ≡ Ok (n, rest) → (b : ℕ) × (front : List ℕ) × (bytes ≡ (b ∷ front) ++ rest)
unfolding uvarint_in
uvarint_rest bytes n rest e = groups_rest bytes n rest (of_64_bits_ok (length bytes) n (groups_in bytes) rest e).0

uvarint_nothing : (bytes : List ℕ) → uvarint_in bytes ≡ Err Wrong → 0 < length bytes
unfolding uvarint_in
uvarint_nothing [] e = absurd cc
uvarint_nothing (b ∷ bytes) e = omega arith

pub uvarint_some : TakesSome uvarint_at
uvarint_some s after n e =
    let read = from_ahead s (uvarint_in s.left) n after e in
    let rest = uvarint_rest s.left n after.left read.0 in
    omega (arith, ap length rest.2, length-append (rest.0 ∷ rest.1) after.left)

pub uvarint_local : IsLocal uvarint_at
uvarint_local = record {
  steady = record {
    ahead = λ s after n e.
        let read = from_ahead s (uvarint_in s.left) n after e in
        let rest = uvarint_rest s.left n after.left read.0 in
        record { front = rest.0 ∷ rest.1; same_end = read.1; behind = rest.2 };
    stays = λ s after n more e.
        let read = from_ahead s (uvarint_in s.left) n after e in
        ap (uvarint_from (with_more s more)) (uvarint_more s.left more n after.left read.0)
        ∙ ap (λ (t : Spot). Ok (n, t)) (onward_more s after more read.1);
    refused = λ s f more e plain.
        let wrong = from_plain s (uvarint_in s.left) f e plain in
        ap (uvarint_from (with_more s more)) (uvarint_wrong s.left more wrong.0)
        ∙ ap (λ (n : ℕ). failed (ℕ × Spot) (faults.Number n)) (place_more s more)
        ∙ ap (λ (g : ByteFault). failed (ℕ × Spot) g) (sym wrong.1);
    end = λ s at e. from_end s (uvarint_in s.left) at e;
    goes_on = λ s e.
        let cut = from_wants s (uvarint_in s.left) e in
        (1 ∷ [], AreBytes-one, from_enough (with_more s (1 ∷ [])) (uvarint_in (s.left ++ 1 ∷ [])) (uvarint_one s.left cut));
  };
  inside = λ s f fits e plain.
      let wrong = from_plain s (uvarint_in s.left) f e plain in
      let some = uvarint_nothing s.left wrong.0 in
      subst (IsAmong (place s) s.end) (sym wrong.1) (omega arith, omega (arith, fits, some));
}
  where
    AreBytes-one : AreBytes (1 ∷ [])
    AreBytes-one zero = omega arith
    AreBytes-one (suc i) = omega arith

-- ---- signed numbers, flags and constants

pub varint_local : IsLocal varint_at
varint_local = then_local uvarint_at (λ n s. Ok (signed_of n, s)) uvarint_local (λ n. done_local (signed_of n))

pub varint_some : TakesSome varint_at
varint_some s after x e =
    let read = bind_ok (uvarint_at s) (λ n. Ok (signed_of n.0, n.1)) (x, after) e in
    let same = done_is (signed_of read.0.0, read.0.1) (x, after) read.2 in
    subst (λ (p : ℤ × Spot). length p.1.left < length s.left) same (uvarint_some s read.0.1 read.0.0 read.1)

flag_stands : (start n : ℕ) (f : ByteFault) → flag_of start n ≡ Err f → StandsAt start f
flag_stands start n f e =
    elim (chosen (nat_lt 1 n) _ _ _ e) [
      | inl large ↦ subst (StandsAt start) (fault_is (faults.Tag start n) f large.1) (refl, refl)
      | inr small ↦ absurd (let no = small.1 in cc)
    ]

pub flag_local : IsLocal flag_at
flag_local =
    then_from uvarint_at (λ start n s. flag_of start n >>= λ flag. Ok (flag, s)) uvarint_local uvarint_some
    (λ start n. from_judged start (flag_of start n) (λ flag s. Ok (flag, s)) (flag_stands start n) (λ flag. from_local start (λ s. Ok (flag, s)) (done_local flag)))

judged_stands : (signed : Bool) (max start prefix : ℕ) (size : List ℕ) (f : ByteFault) → judged signed max start prefix size ≡ Err f → StandsAt start f
judged_stands signed max start prefix size f e =
    elim (judged_ways signed max start prefix size f e) [
      | inl number ↦ subst (StandsAt start) (sym number) (refl, refl)
      | inr outside ↦ subst (StandsAt start) (sym outside) (by (max == 64))
    ]
  where
    by : (b : Bool) → StandsAt start (cond b (faults.Wide start) (faults.Range start prefix))
    by true = (refl, refl)
    by false = (refl, refl)

long_from : (signed : Bool) (max start prefix : ℕ) → IsLocalFrom start (long_at signed max start prefix)
long_from signed max start prefix =
    from_then (bytes_at (length_behind signed prefix)) start (λ size s. judged signed max start prefix size >>= λ value. Ok (value, s)) (bytes_local (length_behind signed prefix))
    (λ size. from_judged start (judged signed max start prefix size) (λ value s. Ok (value, s)) (judged_stands signed max start prefix size) (λ value. from_local start (λ s. Ok (value, s)) (done_local value)))

pub whole_local : (signed : Bool) (max : ℕ) → IsLocal (whole_at signed max)
whole_local signed max =
    then_from byte_at (λ start first s. cond (nat_lt first (small_limit signed max)) (Ok (value_of signed first, s)) (long_at signed max start first s)) byte_local byte_some
    (λ start first. by start first (nat_lt first (small_limit signed max)))
  where
    by : (start first : ℕ) (b : Bool) → IsLocalFrom start (λ s. cond b (Ok (value_of signed first, s)) (long_at signed max start first s))
    by start first true = from_local start (λ s. Ok (value_of signed first, s)) (done_local (value_of signed first))
    by start first false = long_from signed max start first
