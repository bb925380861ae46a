-- The first breach of a file depends only on the bytes up to where it is met.
use Rattle.std.proofs.Common.{◌≡◌, ℕ, zero, suc, ◌+◌, ◌<◌, List, ◌++◌, length, take, drop, Bool, true, false, Result, Ok, Err, refl, sym, ap, subst, ◌∙◌, arith, ◌⊎◌, inl, inr}
use Rattle.std.specs.Prelude.{◌==◌}
use Rattle.std.proofs.lemmas.Bool.{eqb-false, ne_eqb}
use Rattle.std.proofs.lemmas.List.{length-append, drop_at, take_at}
use Rattle.wire_bytes.specs.declared.fault.ByteFault.{ByteFault}
use Rattle.wire_bytes.specs.declared.fault.ByteFault.TheVariants as faults
use Rattle.wire_bytes.specs.Reading.{Spot, place, ◌>>=◌, demand, bytes_at}
use Rattle.wire_bytes.specs.Local.{with_more, is_ended, wants_more, AreBytes, IsAmong, IsLocal}
use Rattle.wire_bytes.proofs.Steps.{bind_ok}
use Rattle.wire_bytes.proofs.LocalLemmas.{after_step, done_local, then_local, then_placed, bind_err, fault_is, place_more, among_from}
use Rattle.wire_bytes.proofs.NumbersLocal.{bytes_ahead, bytes_local}
use Rattle.name_index.specs.FullFile.{Section, content, Package, FullFile, named}
use Rattle.name_index.specs.FirstBreach.{FirstBreach, Header, header_at, index_at, section_at, full_file_of}
use Rattle.name_index.proofs.LocalLemmas.{header_local, index_local}

abbrev start : List ℕ → Spot
start bytes = record { end = length bytes; left = bytes }

start_more : (bytes more : List ℕ) → with_more (start bytes) more ≡ start (bytes ++ more)
start_more bytes more = ap (λ (n : ℕ). record { end = n; left = bytes ++ more }) (sym (length-append bytes more))

-- ---- the steps of the file, where each section is what was read

-- the header, where both sections begin, and the packages
abbrev Found : Type 0
Found = Header × (ℕ × (ℕ × List Package))

abbrev with_packages : List ℕ → Header → ℕ → List ℕ → ℕ → List ℕ → Spot → Result (Found × Spot) ByteFault
with_packages own h first strings second body s = index_at own strings h.body s >>= λ packages. Ok ((h, (first, (second, packages.0))), packages.1)

abbrev with_body : List ℕ → Header → ℕ → List ℕ → Spot → Result (Found × Spot) ByteFault
with_body own h first strings = after_step (bytes_at h.body) (with_packages own h first strings)

abbrev with_strings : List ℕ → Header → Spot → Result (Found × Spot) ByteFault
with_strings own h = after_step (bytes_at h.strings) (with_body own h)

abbrev parts_at : List ℕ → Spot → Result (Found × Spot) ByteFault
parts_at own s = header_at s >>= λ h. with_strings own h.0 h.1

parts_local : (own : List ℕ) → IsLocal (parts_at own)
parts_local own =
    then_local header_at (with_strings own) header_local
    (λ h. then_placed (bytes_at h.strings) (with_body own h) (bytes_local h.strings)
    (λ first strings. then_placed (bytes_at h.body) (with_packages own h first strings) (bytes_local h.body)
    (λ second body. then_local (index_at own strings h.body) (λ packages s. Ok ((h, (first, (second, packages))), s)) (index_local own strings h.body) (λ packages. done_local _))))

-- the end of the file
abbrev closing : List ℕ → List ℕ → Found × Spot → Result FullFile ByteFault
closing own bytes r = demand (length r.1.left == 0) (faults.Trailing (place r.1)) >>= λ ended. Ok (record {
  bytes = bytes;
  version = r.0.0.version;
  strings = record { at = r.0.1.0; len = r.0.0.strings };
  body = record { at = r.0.1.1.0; len = r.0.0.body };
  packages = named own r.0.1.1.1;
})

content_is : (bytes : List ℕ) (h : Header) (s : Spot) (n : ℕ) (strings : List ℕ) (after : Spot) → header_at (start bytes) ≡ Ok (h, s) → bytes_at n s ≡ Ok (strings, after)
    → content bytes (record { at = place s; len = n }) ≡ strings
content_is bytes h s n strings after read taken =
    let ahead = header_local.steady.ahead (start bytes) s h read in
    let split = bytes_ahead n s after strings taken in
    let there : drop (place s) bytes ≡ s.left = ap (drop (place s)) ahead.behind ∙ drop_at ahead.front s.left (place s) (omega (arith, ahead.same_end, ap length ahead.behind, length-append ahead.front s.left)) in
    ap (take n) (there ∙ split.1) ∙ take_at strings after.left n split.2

-- the steps of the definition
abbrev last_of : List ℕ → List ℕ → Header × Spot → Section × Spot → Section × Spot → List Package × Spot → Result FullFile ByteFault
last_of own bytes h strings body packages = demand (length packages.1.left == 0) (faults.Trailing (place packages.1)) >>= λ ended. Ok (record {
  bytes = bytes;
  version = h.0.version;
  strings = strings.0;
  body = body.0;
  packages = named own packages.0;
})

abbrev body_of : List ℕ → List ℕ → Header × Spot → Section × Spot → Section × Spot → Result FullFile ByteFault
body_of own bytes h strings body = index_at own (content bytes strings.0) body.0.len body.1 >>= last_of own bytes h strings body

abbrev strings_of : List ℕ → List ℕ → Header × Spot → Section × Spot → Result FullFile ByteFault
strings_of own bytes h strings = section_at h.0.body strings.1 >>= body_of own bytes h strings

abbrev header_of : List ℕ → List ℕ → Header × Spot → Result FullFile ByteFault
header_of own bytes h = section_at h.0.strings h.1 >>= strings_of own bytes h

abbrev sectioned : ℕ → Spot → List ℕ × Spot → Result (Section × Spot) ByteFault
sectioned size s taken = Ok (record { at = place s; len = size }, taken.1)

full_is : (own bytes : List ℕ) → full_file_of own bytes ≡ (parts_at own (start bytes) >>= closing own bytes)
unfolding full_file_of
full_is own bytes = headed (header_at (start bytes)) refl
  where
    indexed : (h : Header) (s1 s2 s3 : Spot) (strings : List ℕ) (r : Result (List Package × Spot) ByteFault)
        → (r >>= last_of own bytes (h, s1) (record { at = place s1; len = h.strings }, s2) (record { at = place s2; len = h.body }, s3))
        ≡ ((r >>= λ packages. Ok ((h, (place s1, (place s2, packages.0))), packages.1)) >>= closing own bytes)
    indexed h s1 s2 s3 strings (Ok packages) = refl
    indexed h s1 s2 s3 strings (Err f) = refl

    bodied : (h : Header) (s1 s2 : Spot) (strings : List ℕ) → content bytes (record { at = place s1; len = h.strings }) ≡ strings → (r : Result (List ℕ × Spot) ByteFault)
        → ((r >>= sectioned h.body s2) >>= body_of own bytes (h, s1) (record { at = place s1; len = h.strings }, s2))
        ≡ ((r >>= λ b. with_packages own h (place s1) strings (place s2) b.0 b.1) >>= closing own bytes)
    bodied h s1 s2 strings is (Ok (body, s3)) =
        ap (λ (c : List ℕ). index_at own c h.body s3 >>= last_of own bytes (h, s1) (record { at = place s1; len = h.strings }, s2) (record { at = place s2; len = h.body }, s3)) is
        ∙ indexed h s1 s2 s3 strings (index_at own strings h.body s3)
    bodied h s1 s2 strings is (Err f) = refl

    stringed : (h : Header) (s1 : Spot) → header_at (start bytes) ≡ Ok (h, s1) → (r : Result (List ℕ × Spot) ByteFault) → bytes_at h.strings s1 ≡ r
        → ((r >>= sectioned h.strings s1) >>= strings_of own bytes (h, s1)) ≡ ((r >>= λ st. with_body own h (place s1) st.0 st.1) >>= closing own bytes)
    stringed h s1 read (Ok (strings, s2)) taken = bodied h s1 s2 strings (content_is bytes h s1 h.strings strings s2 read taken) (bytes_at h.body s2)
    stringed h s1 read (Err f) taken = refl

    headed : (r : Result (Header × Spot) ByteFault) → header_at (start bytes) ≡ r → (r >>= header_of own bytes) ≡ ((r >>= λ h. with_strings own h.0 h.1) >>= closing own bytes)
    headed (Ok (h, s1)) read = stringed h s1 read (bytes_at h.strings s1) refl
    headed (Err f) read = refl

-- ---- the breach

closing_fails : (own bytes : List ℕ) (r : Found × Spot) (f : ByteFault) → closing own bytes r ≡ Err f → (f ≡ faults.Trailing (place r.1)) × (0 < length r.1.left)
closing_fails own bytes r f e = by (length r.1.left == 0) refl
  where
    made : FullFile
    made = record {
      bytes = bytes;
      version = r.0.0.version;
      strings = record { at = r.0.1.0; len = r.0.0.strings };
      body = record { at = r.0.1.1.0; len = r.0.0.body };
      packages = named own r.0.1.1.1;
    }

    by : (b : Bool) → (length r.1.left == 0) ≡ b → (f ≡ faults.Trailing (place r.1)) × (0 < length r.1.left)
    by true is = absurd (let fine = sym (ap (λ (b : Bool). demand b (faults.Trailing (place r.1)) >>= λ ended. Ok made) is) ∙ e in cc)
    by false is =
        let some = eqb-false (length r.1.left) 0 is in
        (sym (fault_is (faults.Trailing (place r.1)) f (sym (ap (λ (b : Bool). demand b (faults.Trailing (place r.1)) >>= λ ended. Ok made) is) ∙ e)), omega (arith, some))

closing_again : (own bytes : List ℕ) (r : Found × Spot) → 0 < length r.1.left → closing own bytes r ≡ Err (faults.Trailing (place r.1))
closing_again own bytes r some = rw (ne_eqb (length r.1.left) 0 (λ none. omega (arith, some, none))) refl

-- how a file is broken
breach_ways : (own bytes : List ℕ) (f : ByteFault) → FirstBreach own bytes f
    → (parts_at own (start bytes) ≡ Err f) ⊎ ((r : Found × Spot) × (parts_at own (start bytes) ≡ Ok r) × (f ≡ faults.Trailing (place r.1)) × (0 < length r.1.left))
breach_ways own bytes f e =
    elim (bind_err (parts_at own (start bytes)) (closing own bytes) f (sym (full_is own bytes) ∙ e)) [
      | inl first ↦ inl first
      | inr last ↦ let ends = closing_fails own bytes last.0 f last.2 in inr (last.0, last.1, ends.0, ends.1)
    ]

breach_early : (own bytes : List ℕ) (f : ByteFault) → parts_at own (start bytes) ≡ Err f → FirstBreach own bytes f
breach_early own bytes f e = full_is own bytes ∙ ap (λ (r : Result (Found × Spot) ByteFault). r >>= closing own bytes) e

breach_late : (own bytes : List ℕ) (r : Found × Spot) → parts_at own (start bytes) ≡ Ok r → 0 < length r.1.left → FirstBreach own bytes (faults.Trailing (place r.1))
breach_late own bytes r e some = full_is own bytes ∙ ap (λ (r : Result (Found × Spot) ByteFault). r >>= closing own bytes) e ∙ closing_again own bytes r some

-- what is left after the packages stays, and more
late_more : (own bytes more : List ℕ) (r : Found × Spot) → parts_at own (start bytes) ≡ Ok r → 0 < length r.1.left + length more → FirstBreach own (bytes ++ more) (faults.Trailing (place r.1))
late_more own bytes more r e some =
    let local = parts_local own in
    let read : parts_at own (start (bytes ++ more)) ≡ Ok (r.0, with_more r.1 more)
    = ap (parts_at own) (sym (start_more bytes more)) ∙ local.steady.stays (start bytes) r.1 r.0 more e in
    subst (λ (n : ℕ). FirstBreach own (bytes ++ more) (faults.Trailing n)) (place_more r.1 more)
    (breach_late own (bytes ++ more) (r.0, with_more r.1 more) read (omega (arith, some, length-append r.1.left more)))

pub breach_stays : (own bytes more : List ℕ) (f : ByteFault) → FirstBreach own bytes f → is_ended f ≡ false → FirstBreach own (bytes ++ more) f
breach_stays own bytes more f e plain =
    let local = parts_local own in
    elim (breach_ways own bytes f e) [
      | inl first ↦ breach_early own (bytes ++ more) f (ap (parts_at own) (sym (start_more bytes more)) ∙ local.steady.refused (start bytes) f more first plain)
      | inr last ↦ subst (FirstBreach own (bytes ++ more)) (sym last.2) (late_more own bytes more last.0 last.1 (omega (arith, last.3)))
    ]

pub breach_inside : (own bytes : List ℕ) (f : ByteFault) → FirstBreach own bytes f → is_ended f ≡ false → IsAmong 0 (length bytes) f
breach_inside own bytes f e plain =
    let local = parts_local own in
    elim (breach_ways own bytes f e) [
      | inl first ↦ among_from (place (start bytes)) 0 (length bytes) (length bytes) f (omega arith) refl (local.inside (start bytes) f (omega arith) first plain)
      | inr last ↦
          let ahead = local.steady.ahead (start bytes) last.0.1 last.0.0 last.1 in
          subst (IsAmong 0 (length bytes)) (sym last.2) (omega arith, omega (arith, last.3, ahead.same_end, ap length ahead.behind, length-append ahead.front last.0.1.left))
    ]

pub breach_end : (own bytes : List ℕ) (at : ℕ) → FirstBreach own bytes (faults.Ended at) → at ≡ length bytes
breach_end own bytes at e =
    let local = parts_local own in
    elim (breach_ways own bytes (faults.Ended at) e) [
      | inl first ↦ local.steady.end (start bytes) at first
      | inr last ↦ absurd (let is = last.2 in cc)
    ]

pub breach_goes_on : (own bytes : List ℕ) (at : ℕ) → FirstBreach own bytes (faults.Ended at) → (more : List ℕ) × AreBytes more × ((at : ℕ) → FirstBreach own (bytes ++ more) (faults.Ended at) → ⊥)
breach_goes_on own bytes at e =
    let local = parts_local own in
    elim (breach_ways own bytes (faults.Ended at) e) [
      | inl first ↦
          let wants : wants_more (parts_at own (start bytes)) ≡ true = ap (λ (r : Result (Found × Spot) ByteFault). wants_more r) first in
          let more = local.steady.goes_on (start bytes) wants in
          (more.0, more.1, λ at again. enough more.0 more.2 at again)
      | inr last ↦ absurd (let is = last.2 in cc)
    ]
  where
    enough : (more : List ℕ) → wants_more (parts_at own (with_more (start bytes) more)) ≡ false → (at : ℕ) → FirstBreach own (bytes ++ more) (faults.Ended at) → ⊥
    enough more fine at again =
        elim (breach_ways own (bytes ++ more) (faults.Ended at) again) [
          | inl first ↦ absurd (let wants = sym (ap (λ (s : Spot). wants_more (parts_at own s)) (start_more bytes more)) ∙ fine in let ended = ap (λ (r : Result (Found × Spot) ByteFault). wants_more r) first in cc)
          | inr last ↦ absurd (let is = last.2 in cc)
        ]

-- a file with more behind it
pub file_trailing : (own bytes more : List ℕ) (file : FullFile) → full_file_of own bytes ≡ Ok file → 0 < length more → FirstBreach own (bytes ++ more) (faults.Trailing (length bytes))
file_trailing own bytes more file e some =
    let local = parts_local own in
    let parts = bind_ok (parts_at own (start bytes)) (closing own bytes) file (sym (full_is own bytes) ∙ e) in
    let ended = none parts.0 parts.2 in
    let ahead = local.steady.ahead (start bytes) parts.0.1 parts.0.0 parts.1 in
    let here : place parts.0.1 ≡ length bytes = omega (arith, ended, ahead.same_end) in
    subst (λ (n : ℕ). FirstBreach own (bytes ++ more) (faults.Trailing n)) here (late_more own bytes more parts.0 parts.1 (omega (arith, some)))
  where
    none : (r : Found × Spot) → closing own bytes r ≡ Ok file → length r.1.left ≡ 0
    none r e = by (length r.1.left) refl
      where
        by : (n : ℕ) → length r.1.left ≡ n → length r.1.left ≡ 0
        by zero is = is
        by (suc n) is = absurd (let again = closing_again own bytes r (omega (arith, is)) in cc)
