-- Whole constants: what is read is spelled, and what is spelled is read.
use Rattle.std.proofs.Common.{◌≡◌, ◌≢◌, ℕ, zero, suc, ◌+◌, ◌-◌, ◌*◌, ◌/◌, ◌%◌, ◌^◌, ◌<◌, ◌≤◌, Bool, true, false, cond, ltb, List, [], ◌∷◌, ◌++◌, length, take, drop, get_or, Option, Some, None, Result, Ok, Err, refl, sym, ap, subst, ◌∙◌, arith, inl, inr, ◌⊎◌, lit≤}
use Rattle.std.specs.Prelude.{ℤ, pos, negsuc, neg_ℤ, unsigned_abs, nat_lt, nat_le, ◌&&◌, ◌==◌, fold, slice_index, IfOk, IfSome, is_some}
use Rattle.std.specs.Option.{ok_or}
use Rattle.std.proofs.lemmas.Bool.{ltb-true, lt-ltb, le-ltb, leb-true, eqb-true, eqb-false, le-leb, lt-leb, cases_lt}
use Rattle.std.proofs.Math.Seq.{drop-cons}
use Rattle.std.proofs.lemmas.List.{take-append-drop}
use Rattle.wire_bytes.specs.declared.fault.ByteFault.{ByteFault}
use Rattle.wire_bytes.specs.declared.fault.ByteFault.TheVariants as faults
use Rattle.wire_bytes.specs.Reading.{Spot, onward, ◌>>=◌, demand, byte_of, byte_at, bytes_at}
use Rattle.wire_bytes.specs.Begins.{Begins}
use Rattle.wire_bytes.specs.Varint.{number_of, signed_of}
use Rattle.wire_bytes.specs.Whole.{IsGreatestLength, bound_of, in_range, code_of, small_limit, prefix_of, size_in, Whole, length_behind, with_sign, value_behind, value_of, beyond, judged}
use Rattle.wire_bytes.proofs.Steps.{bind_ok, demand_ok, chosen, done, done_is}

-- ---- a bound and a code

pub bound_small : (signed : Bool) (max : ℕ) → IsGreatestLength max → bound_of signed max ≤ 2 ^ 127
bound_small true max (inl e) = rw e (lit≤ tt)
bound_small false max (inl e) = rw e (lit≤ tt)
bound_small true max (inr (inl e)) = rw e (lit≤ tt)
bound_small false max (inr (inl e)) = rw e (lit≤ tt)
bound_small true max (inr (inr (inl e))) = rw e (lit≤ tt)
bound_small false max (inr (inr (inl e))) = rw e (lit≤ tt)
bound_small true max (inr (inr (inr (inl e)))) = rw e (lit≤ tt)
bound_small false max (inr (inr (inr (inl e)))) = rw e (lit≤ tt)
bound_small signed max (inr (inr (inr (inr e)))) = rw e (lit≤ tt)

pub limit_256 : (signed : Bool) (max : ℕ) → small_limit signed max ≤ 256
limit_256 true max = by (max == 1)
  where
    by : (b : Bool) → cond b 256 (256 - 2 * max) ≤ 256
    by true = omega arith
    by false = omega arith
limit_256 false max = by (max == 1)
  where
    by : (b : Bool) → cond b 256 (256 - max) ≤ 256
    by true = omega arith
    by false = omega arith

-- a size from 256 on has no code below the limit
pub code_large : (signed negative : Bool) (max n : ℕ) → (negative ≡ true → signed ≡ true) → 256 ≤ n → small_limit signed max ≤ code_of signed (with_sign negative n)
code_large true true max (suc n) sign large = omega (arith, limit_256 true max)
code_large true true max zero sign large = absurd (omega arith)
code_large true false max n sign large = omega (arith, limit_256 true max)
code_large false true max n sign large = absurd (let no = sign refl in cc)
code_large false false max n sign large = omega (arith, limit_256 false max)

pub range_large : (signed negative : Bool) (max n : ℕ) → (negative ≡ true → signed ≡ true) → IsGreatestLength max → 2 ^ 127 < n → in_range signed max (with_sign negative n) ≡ false
range_large true true max zero sign of large = absurd (omega arith)
range_large true true max (suc n) sign of large = le-ltb n (bound_of true max) (omega (arith, bound_small true max of))
range_large true false max n sign of large = le-ltb n (bound_of true max) (omega (arith, bound_small true max of))
range_large false true max n sign of large = absurd (let no = sign refl in cc)
range_large false false max n sign of large = le-ltb n (bound_of false max) (omega (arith, bound_small false max of))

-- ---- the number of some bytes

pub grows : (n : ℕ) (bytes : List ℕ) → n ≤ fold (λ n b. n * 256 + b) n bytes
grows n [] = omega arith
grows n (b ∷ bytes) = omega (arith, grows (n * 256 + b) bytes)

pub size_append : (n : ℕ) (a b : List ℕ) → fold (λ n b. n * 256 + b) n (a ++ b) ≡ fold (λ n b. n * 256 + b) (fold (λ n b. n * 256 + b) n a) b
size_append n [] b = refl
size_append n (x ∷ a) b = size_append (n * 256 + x) a b

-- the rest of the bytes only makes it larger
pub size_large : (bytes : List ℕ) (i n : ℕ) → i < length bytes → n ≡ size_in (take i bytes) → 2 ^ 120 ≤ n → 2 ^ 128 ≤ size_in bytes
size_large bytes i n lt is large =
    let whole : take i bytes ++ drop i bytes ≡ bytes = take-append-drop i bytes in
    let here : drop i bytes ≡ get_or bytes i 0 ∷ drop (suc i) bytes = drop-cons bytes i 0 lt in
    let split : size_in bytes ≡ fold (λ n b. n * 256 + b) (size_in (take i bytes)) (get_or bytes i 0 ∷ drop (suc i) bytes)
    = ap size_in (sym whole) ∙ size_append 0 (take i bytes) (drop i bytes) ∙ ap (fold (λ n b. n * 256 + b) (size_in (take i bytes))) here in
    let more : size_in (take i bytes) * 256 + get_or bytes i 0 ≤ fold (λ n b. n * 256 + b) (size_in (take i bytes) * 256 + get_or bytes i 0) (drop (suc i) bytes) = grows (size_in (take i bytes) * 256 + get_or bytes i 0) (drop (suc i) bytes) in
    rw split (omega (arith, is, more))

pub size_some : (bytes : List ℕ) → 0 < slice_index bytes 0 → 0 < size_in bytes
size_some [] some = absurd (omega arith)
size_some (b ∷ bytes) some = omega (arith, grows (0 * 256 + b) bytes)

-- ---- the ways in which a size is judged

abbrev pub three : Bool → Bool → Bool → ByteFault → ByteFault → ℤ → Result ℤ ByteFault
three a b c f g v = demand a f >>= λ _. demand b f >>= λ _. demand c g >>= λ _. Ok v

pub judged_zero : (signed : Bool) (max at prefix : ℕ) (size : List ℕ) → slice_index size 0 ≡ 0 → judged signed max at prefix size ≡ Err (faults.Number at)
unfolding judged
judged_zero signed max at prefix size none =
    let v = value_behind signed prefix (size_in size) in
    ap (λ (a : Bool). three a (nat_le (small_limit signed max) (code_of signed v)) (in_range signed max v) (faults.Number at) (beyond max at prefix) v) (le-ltb 0 (slice_index size 0) (omega arith))

judged_some : (signed : Bool) (max at prefix : ℕ) (size : List ℕ) (v : ℤ) → 0 < slice_index size 0 → value_behind signed prefix (size_in size) ≡ v
    → judged signed max at prefix size ≡ three true (nat_le (small_limit signed max) (code_of signed v)) (in_range signed max v) (faults.Number at) (beyond max at prefix) v
unfolding judged
judged_some signed max at prefix size v some value =
    ap (λ (v : ℤ). three (nat_lt 0 (slice_index size 0)) (nat_le (small_limit signed max) (code_of signed v)) (in_range signed max v) (faults.Number at) (beyond max at prefix) v) value
    ∙ ap (λ (a : Bool). three a (nat_le (small_limit signed max) (code_of signed v)) (in_range signed max v) (faults.Number at) (beyond max at prefix) v) (lt-ltb 0 (slice_index size 0) some)

pub judged_short : (signed : Bool) (max at prefix : ℕ) (size : List ℕ) (v : ℤ) → 0 < slice_index size 0 → value_behind signed prefix (size_in size) ≡ v → code_of signed v < small_limit signed max
    → judged signed max at prefix size ≡ Err (faults.Number at)
judged_short signed max at prefix size v some value short =
    judged_some signed max at prefix size v some value
    ∙ ap (λ (b : Bool). three true b (in_range signed max v) (faults.Number at) (beyond max at prefix) v) (lt-leb (small_limit signed max) (code_of signed v) short)

judged_long : (signed : Bool) (max at prefix : ℕ) (size : List ℕ) (v : ℤ) → 0 < slice_index size 0 → value_behind signed prefix (size_in size) ≡ v → small_limit signed max ≤ code_of signed v
    → judged signed max at prefix size ≡ three true true (in_range signed max v) (faults.Number at) (beyond max at prefix) v
judged_long signed max at prefix size v some value long =
    judged_some signed max at prefix size v some value
    ∙ ap (λ (b : Bool). three true b (in_range signed max v) (faults.Number at) (beyond max at prefix) v) (le-leb (small_limit signed max) (code_of signed v) long)

pub judged_beyond : (signed : Bool) (max at prefix : ℕ) (size : List ℕ) (v : ℤ) → 0 < slice_index size 0 → value_behind signed prefix (size_in size) ≡ v → small_limit signed max ≤ code_of signed v
    → in_range signed max v ≡ false → judged signed max at prefix size ≡ Err (beyond max at prefix)
judged_beyond signed max at prefix size v some value long outside =
    judged_long signed max at prefix size v some value long ∙ ap (λ (c : Bool). three true true c (faults.Number at) (beyond max at prefix) v) outside

pub judged_fits : (signed : Bool) (max at prefix : ℕ) (size : List ℕ) (v : ℤ) → 0 < slice_index size 0 → value_behind signed prefix (size_in size) ≡ v → small_limit signed max ≤ code_of signed v
    → in_range signed max v ≡ true → judged signed max at prefix size ≡ Ok v
judged_fits signed max at prefix size v some value long inside =
    judged_long signed max at prefix size v some value long ∙ ap (λ (c : Bool). three true true c (faults.Number at) (beyond max at prefix) v) inside

three_fails : (a b c : Bool) (f g : ByteFault) (v : ℤ) (e : ByteFault) → three a b c f g v ≡ Err e → (e ≡ f) ⊎ (e ≡ g)
three_fails false b c f g v e same = inl cc
three_fails true false c f g v e same = inl cc
three_fails true true false f g v e same = inr cc
three_fails true true true f g v e same = absurd cc

-- the faults that a size may have
pub judged_ways : (signed : Bool) (max at prefix : ℕ) (size : List ℕ) (e : ByteFault) → judged signed max at prefix size ≡ Err e → (e ≡ faults.Number at) ⊎ (e ≡ beyond max at prefix)
unfolding judged
judged_ways signed max at prefix size e same =
    let v = value_behind signed prefix (size_in size) in
    three_fails (nat_lt 0 (slice_index size 0)) (nat_le (small_limit signed max) (code_of signed v)) (in_range signed max v) (faults.Number at) (beyond max at prefix) v e same

-- a size that passed
pub record Passed (signed : Bool) (max prefix : ℕ) (size : List ℕ) (v : ℤ) : Type 0 where
  pub some : 0 < slice_index size 0
  pub value : value_behind signed prefix (size_in size) ≡ v
  pub long : small_limit signed max ≤ code_of signed v
  pub inside : in_range signed max v ≡ true

judged_takes : (signed : Bool) (max at prefix : ℕ) (size : List ℕ) (v : ℤ) → judged signed max at prefix size ≡ Ok v → Passed signed max prefix size v
unfolding judged
judged_takes signed max at prefix size v e =
    let w = value_behind signed prefix (size_in size) in
    let first = bind_ok (demand (nat_lt 0 (slice_index size 0)) (faults.Number at)) (λ _. demand (nat_le (small_limit signed max) (code_of signed w)) (faults.Number at) >>= λ _. demand (in_range signed max w) (beyond max at prefix) >>= λ _. Ok w) v e in
    let second = bind_ok (demand (nat_le (small_limit signed max) (code_of signed w)) (faults.Number at)) (λ _. demand (in_range signed max w) (beyond max at prefix) >>= λ _. Ok w) v first.2 in
    let third = bind_ok (demand (in_range signed max w) (beyond max at prefix)) (λ _. Ok w) v second.2 in
    let same : w ≡ v = done_is w v third.2 in
    record {
      some = ltb-true 0 (slice_index size 0) (demand_ok _ _ first.0 first.1);
      value = same;
      long = subst (λ (x : ℤ). small_limit signed max ≤ code_of signed x) same (leb-true _ _ (demand_ok _ _ second.0 second.1));
      inside = ap (in_range signed max) (sym same) ∙ demand_ok _ _ third.0 third.1;
    }

-- ---- what is read is spelled

abs-neg : (n : ℕ) → unsigned_abs (neg_ℤ (pos n)) ≡ n
abs-neg zero = refl
abs-neg (suc n) = refl

pub abs-with_sign : (negative : Bool) (n : ℕ) → unsigned_abs (with_sign negative n) ≡ n
abs-with_sign true n = abs-neg n
abs-with_sign false n = refl

-- the prefix of the value behind a prefix
pub prefix_again : (signed negative : Bool) (prefix n : ℕ) → negative ≡ (signed && (prefix % 2 == 1)) → prefix < 256 → 0 < n → prefix_of signed (with_sign negative n) (length_behind signed prefix) ≡ prefix
prefix_again false negative prefix n is small some = omega arith
prefix_again true true prefix zero is small some = absurd (omega arith)
prefix_again true true prefix (suc n) is small some = let odd : prefix % 2 ≡ 1 = eqb-true (prefix % 2) 1 (sym is) in omega arith
prefix_again true false prefix n is small some =
    let even : prefix % 2 ≢ 1 = eqb-false (prefix % 2) 1 (sym is) in omega arith

pub few_behind : (signed : Bool) (max prefix : ℕ) → IsGreatestLength max → prefix < 256 → small_limit signed max ≤ prefix → length_behind signed prefix ≤ max
few_behind signed max prefix of small above = by (max == 1) refl
  where
    by : (b : Bool) → (max == 1) ≡ b → length_behind signed prefix ≤ max
    by true e = absurd (let limit : small_limit signed max ≡ 256 = ap (λ (b : Bool). cond b 256 (cond signed (256 - 2 * max) (256 - max))) e in omega arith)
    by false e =
        let limit : small_limit signed max ≡ cond signed (256 - 2 * max) (256 - max) = ap (λ (b : Bool). cond b 256 (cond signed (256 - 2 * max) (256 - max))) e in
        enough signed (subst (λ (n : ℕ). n ≤ prefix) limit above)
      where
        enough : (signed : Bool) → cond signed (256 - 2 * max) (256 - max) ≤ prefix → length_behind signed prefix ≤ max
        enough true le = omega (arith, of)
        enough false le = omega (arith, of)

pub long_takes : (signed : Bool) (max at prefix : ℕ) (size : List ℕ) (v : ℤ) → ((i : ℕ) → get_or size i 0 < 256) → prefix < 256 → IsGreatestLength max
    → length size ≡ length_behind signed prefix → small_limit signed max ≤ prefix → judged signed max at prefix size ≡ Ok v → Whole signed max (prefix ∷ size) v
long_takes signed max at prefix size v fits small of len above e =
    let passed = judged_takes signed max at prefix size v e in
    let n = size_in size in
    let some : 0 < n = size_some size passed.some in
    let first : prefix_of signed v (length size) ≡ prefix
    = ap (prefix_of signed v) len ∙ ap (λ (w : ℤ). prefix_of signed w (length_behind signed prefix)) (sym passed.value) ∙ prefix_again signed (signed && (prefix % 2 == 1)) prefix n refl small some in
    record {
      of_type = passed.inside;
      spelled = inr (record {
        size = size;
        spelled = ap (λ (p : ℕ). p ∷ size) (sym first);
        value = sym (abs-with_sign (signed && (prefix % 2 == 1)) n) ∙ ap unsigned_abs passed.value;
        few = let behind = few_behind signed max prefix of small above in omega arith;
        highest = passed.some;
        of_bytes = fits;
        above = passed.long;
      });
    }

pub is_long : (signed : Bool) (max at prefix : ℕ) (size : List ℕ) (result : Result ℤ ByteFault) → ((i : ℕ) → get_or size i 0 < 256) → prefix < 256 → IsGreatestLength max
    → length size ≡ length_behind signed prefix → small_limit signed max ≤ prefix → result ≡ judged signed max at prefix size → IfOk result (λ v. Whole signed max (prefix ∷ size) v)
is_long signed max at prefix size (Ok v) fits small of len above e = long_takes signed max at prefix size v fits small of len above (sym e)
is_long signed max at prefix size (Err f) fits small of len above e = tt

-- ---- the code's answers

abbrev pub failed : ByteFault → Result ℤ ByteFault
failed f = Err f

value_is : (signed negative : Bool) (prefix n : ℕ) (size : List ℕ) → negative ≡ (signed && (prefix % 2 == 1)) → n ≡ size_in size → value_behind signed prefix (size_in size) ≡ with_sign negative n
value_is signed negative prefix n size sign number = ap (λ (b : Bool). with_sign b (size_in size)) (sym sign) ∙ ap (with_sign negative) (sym number)

only_signed : (signed b : Bool) → (signed && b) ≡ true → signed ≡ true
only_signed true b e = refl
only_signed false b e = absurd cc

pub ends_large : (signed : Bool) (max at prefix : ℕ) (size : List ℕ) → IsGreatestLength max → 0 < slice_index size 0 → 2 ^ 128 ≤ size_in size
    → judged signed max at prefix size ≡ Err (beyond max at prefix)
ends_large signed max at prefix size of some large =
    let sign = only_signed signed (prefix % 2 == 1) in
    judged_beyond signed max at prefix size (value_behind signed prefix (size_in size)) some refl
    (code_large signed (signed && (prefix % 2 == 1)) max (size_in size) sign (omega arith))
    (range_large signed (signed && (prefix % 2 == 1)) max (size_in size) sign of (omega arith))

pub ends_short : (signed negative : Bool) (max at prefix n : ℕ) (size : List ℕ) → negative ≡ (signed && (prefix % 2 == 1)) → n ≡ size_in size → 0 < slice_index size 0
    → code_of signed (with_sign negative n) < small_limit signed max → judged signed max at prefix size ≡ Err (faults.Number at)
ends_short signed negative max at prefix n size sign number some short =
    judged_short signed max at prefix size (with_sign negative n) some (value_is signed negative prefix n size sign number) short

pub ends_long : (signed negative : Bool) (max at prefix n : ℕ) (size : List ℕ) (value : Option ℤ) → negative ≡ (signed && (prefix % 2 == 1)) → n ≡ size_in size → 0 < slice_index size 0
    → (code_of signed (with_sign negative n) < small_limit signed max → ⊥)
    → IfSome value (λ v. v ≡ with_sign negative n) → is_some value ≡ in_range signed max (with_sign negative n)
    → ok_or value (beyond max at prefix) ≡ judged signed max at prefix size
ends_long signed negative max at prefix n size value sign number some long found fits =
    let v = with_sign negative n in
    let is = value_is signed negative prefix n size sign number in
    let above : small_limit signed max ≤ code_of signed v = elim (cases_lt (code_of signed v) (small_limit signed max)) [ inl lt ↦ absurd (long lt) | inr ge ↦ ge ] in
    by value found fits is above
  where
    by : (value : Option ℤ) → IfSome value (λ v. v ≡ with_sign negative n) → is_some value ≡ in_range signed max (with_sign negative n)
        → value_behind signed prefix (size_in size) ≡ with_sign negative n → small_limit signed max ≤ code_of signed (with_sign negative n)
        → ok_or value (beyond max at prefix) ≡ judged signed max at prefix size
    by (Some v) found fits is above = ap (λ (w : ℤ). done w) found ∙ sym (judged_fits signed max at prefix size (with_sign negative n) some is above (sym fits))
    by None found fits is above = sym (judged_beyond signed max at prefix size (with_sign negative n) some is above (sym fits))

-- ---- what stands in front

byte_left : (s after : Spot) (b : ℕ) → byte_at s ≡ Ok (b, after) → s.left ≡ b ∷ after.left
byte_left s after b e = go s.left refl e
  where
    go : (bytes : List ℕ) → s.left ≡ bytes → byte_of s bytes ≡ Ok (b, after) → bytes ≡ b ∷ after.left
    go [] is e = absurd cc
    go (c ∷ rest) is e = let same = done_is (c, onward s rest) (b, after) e in ap (λ (p : ℕ × Spot). p.0 ∷ p.1.left) same

bytes_left : (n : ℕ) (s after : Spot) (taken : List ℕ) → bytes_at n s ≡ Ok (taken, after) → s.left ≡ taken ++ after.left
bytes_left n s after taken e =
    elim (chosen (ltb (length s.left) n) _ _ _ e) [
      | inl short ↦ absurd (let no = short.1 in cc)
      | inr fine ↦ let same = done_is (take n s.left, onward s (drop n s.left)) (taken, after) fine.1 in sym (take-append-drop n s.left) ∙ ap (λ (p : List ℕ × Spot). p.0 ++ p.1.left) same
    ]

pub bound_least : (signed : Bool) (max : ℕ) → IsGreatestLength max → cond signed 128 256 ≤ bound_of signed max
bound_least true max (inl e) = rw e (lit≤ tt)
bound_least false max (inl e) = rw e (lit≤ tt)
bound_least true max (inr (inl e)) = rw e (lit≤ tt)
bound_least false max (inr (inl e)) = rw e (lit≤ tt)
bound_least true max (inr (inr (inl e))) = rw e (lit≤ tt)
bound_least false max (inr (inr (inl e))) = rw e (lit≤ tt)
bound_least true max (inr (inr (inr (inl e)))) = rw e (lit≤ tt)
bound_least false max (inr (inr (inr (inl e)))) = rw e (lit≤ tt)
bound_least true max (inr (inr (inr (inr e)))) = rw e (lit≤ tt)
bound_least false max (inr (inr (inr (inr e)))) = rw e (lit≤ tt)

code_again : (signed : Bool) (code : ℕ) → code_of signed (value_of signed code) ≡ code
code_again false code = refl
code_again true code = by (code % 2 == 0) refl
  where
    by : (b : Bool) → (code % 2 == 0) ≡ b → number_of (signed_of code) ≡ code
    by true e = let even : code % 2 ≡ 0 = eqb-true (code % 2) 0 e in ap (λ (b : Bool). number_of (cond b (pos (code / 2)) (negsuc (code / 2)))) e ∙ omega arith
    by false e = let odd : code % 2 ≢ 0 = eqb-false (code % 2) 0 e in ap (λ (b : Bool). number_of (cond b (pos (code / 2)) (negsuc (code / 2)))) e ∙ omega arith

range_short : (signed : Bool) (max code : ℕ) → IsGreatestLength max → code < 256 → in_range signed max (value_of signed code) ≡ true
range_short false max code of small = lt-ltb code (bound_of false max) (omega (arith, bound_least false max of))
range_short true max code of small =
    let inside : ltb (code / 2) (bound_of true max) ≡ true = lt-ltb (code / 2) (bound_of true max) (omega (arith, bound_least true max of)) in
    by (code % 2 == 0) inside
  where
    by : (b : Bool) → ltb (code / 2) (bound_of true max) ≡ true → in_range true max (cond b (pos (code / 2)) (negsuc (code / 2))) ≡ true
    by true e = e
    by false e = e

pub found_short : (signed : Bool) (max first : ℕ) (s after : Spot) → IsGreatestLength max → byte_at s ≡ Ok (first, after) → first < small_limit signed max
    → Begins (Whole signed max) s.left (value_of signed first) after.left
found_short signed max first s after of read short =
    let again = code_again signed first in (
      first ∷ [],
      record {
        of_type = range_short signed max first of (omega (arith, limit_256 signed max));
        spelled = inl (ap (λ (b : ℕ). b ∷ []) (sym again), subst (λ (n : ℕ). n < small_limit signed max) (sym again) short);
      },
      byte_left s after first read,
    )

pub found_long : (signed : Bool) (max first n : ℕ) (size : List ℕ) (v : ℤ) (s behind after : Spot) → byte_at s ≡ Ok (first, behind) → bytes_at n behind ≡ Ok (size, after) → Whole signed max (first ∷ size) v
    → Begins (Whole signed max) s.left v after.left
found_long signed max first n size v s behind after read taken whole =
    (first ∷ size, whole, byte_left s behind first read ∙ ap (λ (bytes : List ℕ). first ∷ bytes) (bytes_left n behind after size taken))
