-- Why no whole constant can be read: each fault of reading is one, and what is one is the fault of reading.
use Rattle.std.proofs.Common.{◌≡◌, ℕ, zero, suc, ◌%◌, ◌<◌, ◌≤◌, Bool, true, false, cond, List, [], ◌∷◌, ◌++◌, length, take, drop, Result, Ok, Err, refl, sym, ap, subst, ◌∙◌, arith, inl, inr, ◌⊎◌}
use Rattle.std.specs.Prelude.{if◌then◌else◌, ℤ, pos, negsuc, neg_ℤ, nat_lt, nat_le, ◌&&◌, ◌==◌, slice_index, IfErr, IsErrOf}
use Rattle.std.proofs.lemmas.Bool.{ltb-true, ltb-false, lt-ltb, le-ltb, leb-false, eqb-true, eqb-false, ne_eqb, cases_lt}
use Rattle.wire_bytes.specs.declared.fault.ByteFault.{ByteFault}
use Rattle.wire_bytes.specs.declared.fault.ByteFault.TheVariants as faults
use Rattle.wire_bytes.specs.Reading.{Spot, place, onward, ◌>>=◌, byte_at, bytes_at, Reads}
use Rattle.wire_bytes.specs.Whole.{IsGreatestLength, bound_of, in_range, code_of, small_limit, prefix_of, size_in, length_behind, with_sign, value_behind, value_of, beyond, judged, long_at, whole_at}
use Rattle.wire_bytes.specs.WholeFault.{HasSize, MayBeSigned, Means, LacksBytes, IsLonger, IsOutside, IsWholeFault}
use Rattle.wire_bytes.proofs.Steps.{chosen}
use Rattle.wire_bytes.proofs.CursorLemmas.{byte_at_again, bytes_at_again}
use Rattle.wire_bytes.proofs.LocalLemmas.{bind_err, fault_is, failed}
use Rattle.wire_bytes.proofs.NumbersLocal.{byte_ahead, byte_fault, bytes_ahead, bytes_fault}
use Rattle.wire_bytes.proofs.WholeLemmas.{three, judged_zero, judged_short, judged_beyond, size_some, prefix_again, abs-with_sign, limit_256, bound_least}

-- ---- the value of a prefix and a size

means_sign : (signed : Bool) (negative : Bool) (n : ℕ) → (negative ≡ true → signed ≡ true) → MayBeSigned signed (with_sign negative n)
means_sign signed true zero sign = tt
means_sign signed true (suc n) sign = sign refl
means_sign signed false n sign = tt

only_signed : (signed b : Bool) → (signed && b) ≡ true → signed ≡ true
only_signed true b e = refl
only_signed false b e = absurd cc

size_there : (size : List ℕ) → 0 < slice_index size 0 → 0 < length size
size_there [] some = absurd (omega arith)
size_there (b ∷ size) some = omega arith

-- a prefix of which some bytes are told
prefix_small : (signed : Bool) (prefix : ℕ) → 0 < length_behind signed prefix → prefix < 256
prefix_small true prefix some = omega arith
prefix_small false prefix some = omega arith

-- a size that doesn't begin with 0 has a value
means_behind : (signed : Bool) (prefix : ℕ) (size : List ℕ) → 0 < slice_index size 0 → length size ≡ length_behind signed prefix
    → Means signed prefix size (value_behind signed prefix (size_in size))
means_behind signed prefix size some told =
    let negative = signed && (prefix % 2 == 1) in
    let there = size_there size some in
    let small = prefix_small signed prefix (omega (arith, there, told)) in
    record {
      sign = means_sign signed negative (size_in size) (only_signed signed (prefix % 2 == 1));
      first = sym (ap (prefix_of signed (value_behind signed prefix (size_in size))) told ∙ prefix_again signed negative prefix (size_in size) refl small (size_some size some));
      value = sym (abs-with_sign negative (size_in size));
    }

-- and no other one
behind_means : (signed : Bool) (prefix : ℕ) (size : List ℕ) (v : ℤ) → 0 < length size → length size ≡ length_behind signed prefix → Means signed prefix size v
    → value_behind signed prefix (size_in size) ≡ v
behind_means false prefix size (pos m) some told means = ap pos means.value
behind_means false prefix size (negsuc m) some told means = absurd (let no : false ≡ true = means.sign in cc)
behind_means true prefix size (pos m) some told means =
    let even : prefix % 2 ≡ 0 = omega (arith, means.first, told) in
    ap (λ (p : ℕ). with_sign (p == 1) (size_in size)) even ∙ ap pos means.value
behind_means true prefix size (negsuc m) some told means =
    let odd : prefix % 2 ≡ 1 = omega (arith, means.first, told) in
    ap (λ (p : ℕ). with_sign (p == 1) (size_in size)) odd ∙ ap (λ (k : ℕ). neg_ℤ (pos k)) means.value

-- a value with a byte of its own is one of the type
code_inside : (signed : Bool) (max : ℕ) (v : ℤ) → IsGreatestLength max → MayBeSigned signed v → code_of signed v < 256 → in_range signed max v ≡ true
code_inside true max (pos n) of sign small = lt-ltb n (bound_of true max) (omega (arith, bound_least true max of))
code_inside true max (negsuc n) of sign small = lt-ltb n (bound_of true max) (omega (arith, bound_least true max of))
code_inside false max (pos n) of sign small = lt-ltb n (bound_of false max) (omega (arith, bound_least false max of))
code_inside false max (negsuc n) of sign small = absurd (let no : false ≡ true = sign in cc)

-- ---- what is wrong with a size

three_fails : (a b c : Bool) (f g : ByteFault) (v : ℤ) (e : ByteFault) → three a b c f g v ≡ Err e → ((a ≡ false) × (e ≡ f)) ⊎ (((a ≡ true) × (b ≡ false) × (e ≡ f)) ⊎ ((a ≡ true) × (b ≡ true) × (c ≡ false) × (e ≡ g)))
three_fails false b c f g v e same = inl (refl, sym (fault_is f e same))
three_fails true false c f g v e same = inr (inl (refl, refl, sym (fault_is f e same)))
three_fails true true false f g v e same = inr (inr (refl, refl, refl, sym (fault_is g e same)))
three_fails true true true f g v e same = absurd cc

pub judged_fails : (signed : Bool) (max at prefix : ℕ) (size : List ℕ) (e : ByteFault) → length size ≡ length_behind signed prefix → judged signed max at prefix size ≡ Err e
    → ((e ≡ faults.Number at) × IsLonger signed max prefix size) ⊎ ((e ≡ beyond max at prefix) × IsOutside signed max prefix size)
unfolding judged
judged_fails signed max at prefix size e told same =
    let v = value_behind signed prefix (size_in size) in
    elim (three_fails (nat_lt 0 (slice_index size 0)) (nat_le (small_limit signed max) (code_of signed v)) (in_range signed max v) (faults.Number at) (beyond max at prefix) v e same) [
      | inl none ↦ let le = ltb-false 0 (slice_index size 0) none.0 in inl (none.1, inl (omega (arith, le)))
      | inr (inl short) ↦
          let some = ltb-true 0 (slice_index size 0) short.0 in
          let lt : code_of signed v < small_limit signed max = leb-false (small_limit signed max) (code_of signed v) short.1 in
          let some_told = means_behind signed prefix size some told in inl (short.2, inr (v, some_told, lt))
      | inr (inr outside) ↦
          let some = ltb-true 0 (slice_index size 0) outside.0 in
          inr (outside.3, (some, (v, means_behind signed prefix size some told, λ inside. let no : in_range signed max v ≡ true = inside in let none = outside.2 in absurd cc)))
    ]

-- what follows the first byte, and what follows the bytes of a size
abbrev behind_first : Bool → ℕ → ℕ → ℕ × Spot → Result (ℤ × Spot) ByteFault
behind_first signed max at first = if nat_lt first.0 (small_limit signed max) then Ok (value_of signed first.0, first.1) else long_at signed max at first.0 first.1

abbrev with_rest : Spot → ℤ → Result (ℤ × Spot) ByteFault
with_rest rest value = Ok (value, rest)

abbrev behind_size : Bool → ℕ → ℕ → ℕ → List ℕ × Spot → Result (ℤ × Spot) ByteFault
behind_size signed max at prefix size = judged signed max at prefix size.0 >>= with_rest size.1

-- ---- each fault of reading is one

lacking : (signed : Bool) (max : ℕ) (s : Spot) (f : ByteFault) → f ≡ faults.Ended s.end → LacksBytes signed max s.left → IsWholeFault signed max s f
lacking signed max s f is lacks = subst (IsWholeFault signed max s) (sym is) (refl, lacks)

outside_is : (signed : Bool) (max : ℕ) (s : Spot) (prefix : ℕ) (size : List ℕ) (f : ByteFault) → f ≡ beyond max (place s) prefix → HasSize signed max s.left prefix size → IsOutside signed max prefix size
    → IsWholeFault signed max s f
outside_is signed max s prefix size f is has outside = subst (IsWholeFault signed max s) (sym is) (by (max == 64) refl)
  where
    by : (b : Bool) → (max == 64) ≡ b → IsWholeFault signed max s (cond b (faults.Wide (place s)) (faults.Range (place s) prefix))
    by true e = (refl, eqb-true max 64 e, (prefix, size, has, outside))
    by false e = (refl, eqb-false max 64 e, (size, has, outside))

pub whole_fails : (signed : Bool) (max : ℕ) (s : Spot) (f : ByteFault) → whole_at signed max s ≡ Err f → IsWholeFault signed max s f
whole_fails signed max s f e =
    elim (bind_err (byte_at s) (behind_first signed max (place s)) f e) [
      | inl none ↦ let read = byte_fault s f none in lacking signed max s f read.0 (subst (LacksBytes signed max) (sym read.1) tt)
      | inr first ↦ behind first.0.0 first.0.1 first.1 first.2
    ]
  where
    behind : (b : ℕ) (after : Spot) → byte_at s ≡ Ok (b, after) → cond (nat_lt b (small_limit signed max)) (Ok (value_of signed b, after)) (long_at signed max (place s) b after) ≡ Err f → IsWholeFault signed max s f
    behind b after read e =
        let here = byte_ahead s after b read in
        elim (chosen (nat_lt b (small_limit signed max)) (Ok (value_of signed b, after)) (long_at signed max (place s) b after) (Err f) e) [
          | inl short ↦ absurd (let no = short.1 in cc)
          | inr long ↦
              let above = ltb-false b (small_limit signed max) long.0 in
              elim (bind_err (bytes_at (length_behind signed b) after) (behind_size signed max (place s) b) f long.1) [
                | inl few ↦
                    let cut = bytes_fault (length_behind signed b) after f few in
                    lacking signed max s f (cut.0 ∙ ap (λ (n : ℕ). faults.Ended n) here.0) (subst (LacksBytes signed max) (sym here.1) (above, cut.1))
                | inr taken ↦ sized b after taken.0.0 taken.0.1 here.1 above taken.1 taken.2
              ]
        ]
      where
        sized : (b : ℕ) (after : Spot) (size : List ℕ) (rest : Spot) → s.left ≡ b ∷ after.left → small_limit signed max ≤ b → bytes_at (length_behind signed b) after ≡ Ok (size, rest)
            → behind_size signed max (place s) b (size, rest) ≡ Err f → IsWholeFault signed max s f
        sized b after size rest here above taken e =
            let split = bytes_ahead (length_behind signed b) after rest size taken in
            let has : HasSize signed max s.left b size = record { rest = rest.left; there = here ∙ ap (λ (left : List ℕ). b ∷ left) split.1; no_code = above; told = split.2 } in
            elim (bind_err (judged signed max (place s) b size) (with_rest rest) f e) [
              | inl wrong ↦ elim (judged_fails signed max (place s) b size f split.2 wrong) [
                | inl longer ↦ subst (IsWholeFault signed max s) (sym longer.0) (refl, (b, size, has, longer.1))
                | inr outside ↦ outside_is signed max s b size f outside.0 has outside.1
              ]
              | inr fine ↦ absurd (let no = fine.2 in cc)
            ]

-- ---- what is one is the fault of reading

has_fault : (signed : Bool) (max : ℕ) (s : Spot) (prefix : ℕ) (size : List ℕ) (f : ByteFault) → HasSize signed max s.left prefix size → judged signed max (place s) prefix size ≡ Err f → whole_at signed max s ≡ Err f
has_fault signed max s prefix size f has wrong =
    ap (λ (r : Result (ℕ × Spot) ByteFault). r >>= behind_first signed max (place s))
    (byte_at_again s prefix (size ++ has.rest) has.there)
    ∙ ap (λ (b : Bool). cond b (Ok (value_of signed prefix, onward s (size ++ has.rest))) (long_at signed max (place s) prefix (onward s (size ++ has.rest)))) (le-ltb prefix (small_limit signed max) has.no_code)
    ∙ ap (λ (r : Result (List ℕ × Spot) ByteFault). r >>= behind_size signed max (place s) prefix)
    (bytes_at_again (length_behind signed prefix) (onward s (size ++ has.rest)) size has.rest refl has.told)
    ∙ ap (λ (r : Result ℤ ByteFault). r >>= with_rest (onward s has.rest)) wrong

longer_fault : (signed : Bool) (max at prefix : ℕ) (size : List ℕ) → length size ≡ length_behind signed prefix → IsLonger signed max prefix size → judged signed max at prefix size ≡ Err (faults.Number at)
longer_fault signed max at prefix size told (inl none) = judged_zero signed max at prefix size none
longer_fault signed max at prefix size told (inr short) =
    elim (cases_lt 0 (slice_index size 0)) [
      | inl some ↦ judged_short signed max at prefix size short.0 some (behind_means signed prefix size short.0 (size_there size some) told short.1) short.2
      | inr none ↦ judged_zero signed max at prefix size (omega (arith, none))
    ]

outside_fault : (signed : Bool) (max at prefix : ℕ) (size : List ℕ) → IsGreatestLength max → length size ≡ length_behind signed prefix → IsOutside signed max prefix size
    → judged signed max at prefix size ≡ Err (beyond max at prefix)
outside_fault signed max at prefix size of told outside =
    let v = outside.1.0 in
    let means = outside.1.1 in
    judged_beyond signed max at prefix size v outside.0 (behind_means signed prefix size v (size_there size outside.0) told means) above (none (in_range signed max v) refl)
  where
    above : small_limit signed max ≤ code_of signed outside.1.0
    above = elim (cases_lt (code_of signed outside.1.0) (small_limit signed max)) [
      | inl lt ↦ elim (outside.1.2 (code_inside signed max outside.1.0 of outside.1.1.sign (omega (arith, lt, limit_256 signed max)))) [ ]
      | inr ge ↦ ge
    ]

    none : (b : Bool) → in_range signed max outside.1.0 ≡ b → in_range signed max outside.1.0 ≡ false
    none true e = elim (outside.1.2 e) [ ]
    none false e = e

lacking_fault : (signed : Bool) (max : ℕ) (s : Spot) → LacksBytes signed max s.left → whole_at signed max s ≡ Err (faults.Ended s.end)
lacking_fault signed max s lacks = go s.left lacks refl
  where
    go : (bytes : List ℕ) → LacksBytes signed max bytes → s.left ≡ bytes → whole_at signed max s ≡ Err (faults.Ended s.end)
    go [] lacks is = rw is refl
    go (b ∷ rest) lacks is =
        ap (λ (r : Result (ℕ × Spot) ByteFault). r >>= behind_first signed max (place s)) (byte_at_again s b rest is)
        ∙ ap (λ (c : Bool). cond c (Ok (value_of signed b, onward s rest)) (long_at signed max (place s) b (onward s rest))) (le-ltb b (small_limit signed max) lacks.0)
        ∙ ap (λ (c : Bool). cond c (failed (List ℕ × Spot) (faults.Ended s.end)) (Ok (take (length_behind signed b) rest, onward s (drop (length_behind signed b) rest)))
        >>= behind_size signed max (place s) b) (lt-ltb (length rest) (length_behind signed b) lacks.1)

pub fault_again : (signed : Bool) (max : ℕ) (s : Spot) (f : ByteFault) → IsGreatestLength max → IsWholeFault signed max s f → whole_at signed max s ≡ Err f
fault_again signed max s (faults.Ended at) of is = lacking_fault signed max s is.1 ∙ ap (λ (n : ℕ). failed _ (faults.Ended n)) (sym is.0)
fault_again signed max s (faults.Number at) of is =
    let has = is.1.2 in
    has_fault signed max s is.1.0 is.1.1 (faults.Number (place s)) has (longer_fault signed max (place s) is.1.0 is.1.1 has.told is.1.3) ∙ ap (λ (n : ℕ). failed _ (faults.Number n)) (sym is.0)
fault_again signed max s (faults.Range at prefix) of is =
    let has = is.2.1 in
    has_fault signed max s prefix is.2.0 (beyond max (place s) prefix) has (outside_fault signed max (place s) prefix is.2.0 of has.told is.2.2)
    ∙ ap (λ (b : Bool). failed _ (cond b (faults.Wide (place s)) (faults.Range (place s) prefix))) (ne_eqb max 64 is.1) ∙ ap (λ (n : ℕ). failed _ (faults.Range n prefix)) (sym is.0)
fault_again signed max s (faults.Wide at) of is =
    let has = is.2.2 in
    let same : (max == 64) ≡ true = ap (λ (n : ℕ). n == 64) is.1 in
    has_fault signed max s is.2.0 is.2.1 (beyond max (place s) is.2.0) has (outside_fault signed max (place s) is.2.0 is.2.1 of has.told is.2.3)
    ∙ ap (λ (b : Bool). failed _ (cond b (faults.Wide (place s)) (faults.Range (place s) is.2.0))) same ∙ ap (λ (n : ℕ). failed _ (faults.Wide n)) (sym is.0)
fault_again signed max s (faults.Tag at value) of is = elim is [ ]
fault_again signed max s (faults.Order at) of is = elim is [ ]
fault_again signed max s (faults.Version found) of is = elim is [ ]
fault_again signed max s (faults.Float at) of is = elim is [ ]
fault_again signed max s (faults.NotConst at) of is = elim is [ ]
fault_again signed max s (faults.Trailing at) of is = elim is [ ]

-- ---- an answer of the code

pub is_fault : (signed : Bool) (max : ℕ) (old new : Spot) (result : Result ℤ ByteFault) → Reads (λ v. v) result old new (whole_at signed max old) → IfErr result (IsWholeFault signed max old)
is_fault signed max old new (Ok v) read = tt
is_fault signed max old new (Err f) read = whole_fails signed max old f read.0

pub only_fault : (signed : Bool) (max : ℕ) (old new : Spot) (result : Result ℤ ByteFault) → IsGreatestLength max → Reads (λ v. v) result old new (whole_at signed max old)
    → (f : ByteFault) → IsWholeFault signed max old f → IsErrOf result f
only_fault signed max old new (Ok v) of read f is = absurd (let fails = fault_again signed max old f of is in cc)
only_fault signed max old new (Err g) of read f is = let same = fault_is g f (sym read.0 ∙ fault_again signed max old f of is) in ap (failed ℤ) same
