-- What single steps of a cursor take, and that they take it again.
use Rattle.std.proofs.Common.{◌≡◌, ℕ, ◌≤◌, false, ltb, List, [], ◌∷◌, ◌++◌, length, take, drop, Option, Some, None, Ok, Err, refl, sym, ap, subst, ◌∙◌, arith, inl, inr}
use Rattle.std.proofs.lemmas.Bool.{ltb-false, le-ltb}
use Rattle.std.proofs.lemmas.List.{take-append-drop, length-take, length-append, take_at, drop_at}
use Rattle.wire_bytes.specs.declared.fault.ByteFault.{ByteFault}
use Rattle.wire_bytes.specs.declared.number.Unspelled.TheVariants.{Cut, Wrong}
use Rattle.wire_bytes.specs.Reading.{Spot, onward, byte_at, byte_of, bytes_at, or_fault}
use Rattle.wire_bytes.specs.Uvarint.{BeginsWith, Front, uvarint_in, uvarint_from, uvarint_at}
use Rattle.wire_bytes.proofs.Steps.{chosen, done_is}
use Rattle.wire_bytes.proofs.Spellings.{IsBytes, IsBytes-rest, uvarint_takes, begins_again}
use Rattle.wire_bytes.proofs.TextLemmas.{IsBytes-drop}
use Rattle.wire_bytes.proofs.ManyLemmas.{Takes}

-- bytes that stand behind others
pub IsBytes-behind : (a b bytes : List ℕ) → bytes ≡ a ++ b → IsBytes bytes → IsBytes b
IsBytes-behind a b bytes e fits =
    let there : drop (length a) bytes ≡ b = ap (drop (length a)) e ∙ drop_at a b (length a) refl in
    subst IsBytes there (IsBytes-drop (length a) bytes fits)

-- ---- a number

from_ok : (s : Spot) (front : Front) (n : ℕ) (after : Spot) → uvarint_from s front ≡ Ok (n, after) → (front ≡ Ok (n, after.left)) × (after.end ≡ s.end)
from_ok s (Ok (v, rest)) n after e =
    let same = done_is (v, onward s rest) (n, after) e in
    (ap (λ (p : ℕ × Spot). Ok (p.0, p.1.left)) same, sym (ap (λ (p : ℕ × Spot). p.1.end) same))
from_ok s (Err Cut) n after e = absurd cc
from_ok s (Err Wrong) n after e = absurd cc

pub uvarint_at_takes : (s : Spot) (n : ℕ) (after : Spot) → IsBytes s.left → uvarint_at s ≡ Ok (n, after) → Takes BeginsWith s n after
uvarint_at_takes s n after fits e =
    let read = from_ok s (uvarint_in s.left) n after e in
    let begins = uvarint_takes s.left n after.left fits read.0 in
    record { stands = begins; same_end = read.1; fits = IsBytes-behind begins.0 after.left s.left begins.2 fits }

pub uvarint_at_again : (s : Spot) (n : ℕ) (rest : List ℕ) → BeginsWith s.left n rest → uvarint_at s ≡ Ok (n, onward s rest)
uvarint_at_again s n rest begins = rw (begins_again s.left n rest begins) refl

-- ---- a byte

pub byte_at_takes : (s : Spot) (b : ℕ) (after : Spot) → IsBytes s.left → byte_at s ≡ Ok (b, after) → Takes (λ bytes x rest. bytes ≡ x ∷ rest) s b after
byte_at_takes s b after fits e = go s s.left b after fits e refl
  where
    go : (s : Spot) (bytes : List ℕ) (b : ℕ) (after : Spot) → IsBytes bytes → byte_of s bytes ≡ Ok (b, after) → s.left ≡ bytes → Takes (λ bytes x rest. bytes ≡ x ∷ rest) s b after
    go s [] b after fits e is = absurd cc
    go s (c ∷ rest) b after fits e is =
        let same = done_is (c, onward s rest) (b, after) e in
        record {
          stands = is ∙ ap (λ (p : ℕ × Spot). p.0 ∷ p.1.left) same;
          same_end = sym (ap (λ (p : ℕ × Spot). p.1.end) same);
          fits = subst (λ (p : ℕ × Spot). IsBytes p.1.left) same (IsBytes-rest c rest fits);
        }

pub byte_at_again : (s : Spot) (b : ℕ) (rest : List ℕ) → s.left ≡ b ∷ rest → byte_at s ≡ Ok (b, onward s rest)
byte_at_again s b rest e = rw e refl

-- ---- some bytes

pub bytes_at_takes : (n : ℕ) (s : Spot) (taken : List ℕ) (after : Spot) → IsBytes s.left → bytes_at n s ≡ Ok (taken, after)
    → Takes (λ bytes x rest. bytes ≡ x ++ rest) s taken after × (length taken ≡ n)
bytes_at_takes n s taken after fits e =
    elim (chosen (ltb (length s.left) n) _ _ _ e) [
      | inl short ↦ absurd (let no = short.1 in cc)
      | inr fine ↦
          let enough : n ≤ length s.left = ltb-false (length s.left) n fine.0 in
          let same = done_is (take n s.left, onward s (drop n s.left)) (taken, after) fine.1 in
          let len : length (take n s.left) ≡ n = omega (arith, length-take n s.left) in
          subst (λ (p : List ℕ × Spot). Takes (λ bytes x rest. bytes ≡ x ++ rest) s p.0 p.1 × (length p.0 ≡ n)) same
          (record { stands = sym (take-append-drop n s.left); same_end = refl; fits = IsBytes-drop n s.left fits }, len)
    ]

pub bytes_at_again : (n : ℕ) (s : Spot) (taken rest : List ℕ) → s.left ≡ taken ++ rest → length taken ≡ n → bytes_at n s ≡ Ok (taken, onward s rest)
bytes_at_again n s taken rest e len =
    let enough : ltb (length s.left) n ≡ false = le-ltb (length s.left) n (omega (arith, ap length e, length-append taken rest)) in
    let front : take n s.left ≡ taken = ap (take n) e ∙ take_at taken rest n len in
    let back : drop n s.left ≡ rest = ap (drop n) e ∙ drop_at taken rest n len in
    rw (enough, front, back) refl

-- ---- a value that has to be there

pub or_fault_ok : {A : Type 0} (f : ByteFault) (o : Option A) (x : A) → or_fault f o ≡ Ok x → o ≡ Some x
or_fault_ok f (Some y) x e = ap Some (done_is y x e)
or_fault_ok f None x e = absurd cc
