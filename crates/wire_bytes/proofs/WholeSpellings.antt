-- Whole constants: what is spelled is read, and each value has one spelling.
use Rattle.std.proofs.Common.{◌≡◌, ℕ, zero, suc, ◌+◌, ◌-◌, ◌*◌, ◌/◌, ◌%◌, ◌^◌, ◌<◌, ◌≤◌, Bool, true, false, cond, List, [], ◌∷◌, ◌++◌, length, take, drop, get_or, Some, None, Result, Ok, Err, refl, sym, ap, subst, ◌∙◌, arith, inl, inr, ◌⊎◌, lit≤, add-one}
use Rattle.std.specs.Prelude.{ℤ, pos, negsuc, neg_ℤ, unsigned_abs, nat_lt, ◌==◌, fold, IfErr, IsTrue, if◌then◌else◌}
use Rattle.std.proofs.lemmas.Bool.{lt-ltb, le-ltb, ltb-true, eqb-true, cases_lt}
use Rattle.std.proofs.lemmas.Grind.{pow_more}
use Rattle.std.proofs.lemmas.List.{take-append-drop, length-append, length-drop}
use Rattle.wire_bytes.specs.declared.fault.ByteFault.{ByteFault}
use Rattle.wire_bytes.specs.Reading.{Spot, onward, ◌>>=◌, bytes_at, place, Reads}
use Rattle.wire_bytes.specs.Begins.{Begins, IsPrefixCode}
use Rattle.wire_bytes.specs.Whole.{IsGreatestLength, bound_of, in_range, code_of, small_limit, prefix_of, size_in, IsLong, IsShort, Whole, length_behind, with_sign, value_behind, value_of, judged, long_at, whole_at}
use Rattle.wire_bytes.proofs.Spellings.{IsBytes, IsBytes-rest}
use Rattle.wire_bytes.proofs.TextLemmas.{IsBytes-drop}
use Rattle.wire_bytes.proofs.CursorLemmas.{byte_at_again, bytes_at_again}
use Rattle.wire_bytes.proofs.PrefixCodeLemmas.{Found, prefix_code, signed_even, signed_odd}
use Rattle.wire_bytes.proofs.WholeLemmas.{few_behind, judged_fits, size_some, size_append}

-- ---- what is spelled is read

value_again : (signed : Bool) (max : ℕ) (v : ℤ) → in_range signed max v ≡ true → value_of signed (code_of signed v) ≡ v
value_again true max (pos n) of = signed_even n
value_again true max (negsuc n) of = signed_odd n
value_again false max (pos n) of = refl
value_again false max (negsuc n) of = absurd cc

abbrev behind : Bool → ℕ → ℕ → ℕ × Spot → Result (ℤ × Spot) ByteFault
behind signed max at first = if nat_lt first.0 (small_limit signed max) then Ok (value_of signed first.0, first.1) else long_at signed max at first.0 first.1

again_short : (signed : Bool) (max : ℕ) (s : Spot) (v : ℤ) (rest : List ℕ) → in_range signed max v ≡ true → code_of signed v < small_limit signed max → s.left ≡ code_of signed v ∷ rest
    → whole_at signed max s ≡ Ok (v, onward s rest)
again_short signed max s v rest of short e =
    ap (λ (r : Result (ℕ × Spot) ByteFault). r >>= behind signed max (place s)) (byte_at_again s (code_of signed v) rest e)
    ∙ ap (λ (b : Bool). cond b (Ok (value_of signed (code_of signed v), onward s rest)) (long_at signed max (place s) (code_of signed v) (onward s rest))) (lt-ltb _ _ short)
    ∙ ap (λ (w : ℤ). Ok (w, onward s rest)) (value_again signed max v of)

-- where the greatest length is 1, each value has a code of its own
code_of_one : (signed : Bool) (v : ℤ) → in_range signed 1 v ≡ true → code_of signed v < 256
code_of_one true (pos n) of = omega (arith, ltb-true n 128 of)
code_of_one true (negsuc n) of = omega (arith, ltb-true n 128 of)
code_of_one false (pos n) of = ltb-true n 256 of
code_of_one false (negsuc n) of = absurd cc

prefix_large : (signed : Bool) (max len : ℕ) (v : ℤ) → in_range signed max v ≡ true → small_limit signed max ≤ code_of signed v → len ≤ max → small_limit signed max ≤ prefix_of signed v len
prefix_large signed max len v of above few = by (max == 1) refl
  where
    limit : (b : Bool) → (max == 1) ≡ b → small_limit signed max ≡ cond b 256 (cond signed (256 - 2 * max) (256 - max))
    limit b e = ap (λ (b : Bool). cond b 256 (cond signed (256 - 2 * max) (256 - max))) e

    wide : (signed : Bool) (v : ℤ) → cond signed (256 - 2 * max) (256 - max) ≤ prefix_of signed v len
    wide true (pos n) = omega arith
    wide true (negsuc n) = omega arith
    wide false v = omega arith

    by : (b : Bool) → (max == 1) ≡ b → small_limit signed max ≤ prefix_of signed v len
    by true e =
        let one : max ≡ 1 = eqb-true max 1 e in
        let small : code_of signed v < 256 = code_of_one signed v (subst (λ (m : ℕ). in_range signed m v ≡ true) one of) in
        absurd (omega (arith, limit true e))
    by false e = rw (limit false e) (wide signed v)

length_again : (signed : Bool) (len : ℕ) (v : ℤ) → len ≤ 64 → length_behind signed (prefix_of signed v len) ≡ len
length_again false len v few = omega arith
length_again true len (pos n) few = omega arith
length_again true len (negsuc n) few = omega arith

sign_again : (signed : Bool) (max len n : ℕ) (v : ℤ) → len ≤ 64 → in_range signed max v ≡ true → n ≡ unsigned_abs v → value_behind signed (prefix_of signed v len) n ≡ v
sign_again false max len n (pos m) few of e = ap pos e
sign_again false max len n (negsuc m) few of e = absurd cc
sign_again true max len n (pos m) few of e =
    let even : (256 - 2 * len) % 2 ≡ 0 = omega arith in
    ap (λ (p : ℕ). with_sign (p == 1) n) even ∙ ap pos e
sign_again true max len n (negsuc m) few of e =
    let odd : (257 - 2 * len) % 2 ≡ 1 = omega arith in
    ap (λ (p : ℕ). with_sign (p == 1) n) odd ∙ ap (λ (k : ℕ). neg_ℤ (pos k)) e

again_long : (signed : Bool) (max : ℕ) (s : Spot) (a rest : List ℕ) (v : ℤ) → max ≤ 64 → in_range signed max v ≡ true → IsLong signed max a v → s.left ≡ a ++ rest
    → whole_at signed max s ≡ Ok (v, onward s rest)
again_long signed max s a rest v small of long e =
    let size = long.size in
    let prefix = prefix_of signed v (length size) in
    let here : s.left ≡ prefix ∷ (size ++ rest) = e ∙ ap (λ (bytes : List ℕ). bytes ++ rest) long.spelled in
    let few : length size ≤ 64 = omega (arith, long.few) in
    let above : small_limit signed max ≤ prefix = prefix_large signed max (length size) v of long.above long.few in
    let value : value_behind signed prefix (size_in size) ≡ v = sign_again signed max (length size) (size_in size) v few of long.value in
    let taken : bytes_at (length_behind signed prefix) (onward s (size ++ rest)) ≡ Ok (size, onward s rest) = bytes_at_again (length_behind signed prefix) (onward s (size ++ rest)) size rest refl (sym (length_again signed (length size) v few)) in
    let fits : judged signed max (place s) prefix size ≡ Ok v = judged_fits signed max (place s) prefix size v long.highest value long.above of in
    ap (λ (r : Result (ℕ × Spot) ByteFault). r >>= behind signed max (place s)) (byte_at_again s prefix (size ++ rest) here)
    ∙ ap (λ (b : Bool). cond b (Ok (value_of signed prefix, onward s (size ++ rest))) (long_at signed max (place s) prefix (onward s (size ++ rest)))) (le-ltb prefix (small_limit signed max) above)
    ∙ ap (λ (r : Result (List ℕ × Spot) ByteFault). r >>= λ size. judged signed max (place s) prefix size.0 >>= λ value. Ok (value, size.1)) taken
    ∙ ap (λ (r : Result ℤ ByteFault). r >>= λ value. Ok (value, onward s rest)) fits

at_most_64 : (max : ℕ) → IsGreatestLength max → max ≤ 64
at_most_64 max of = omega (arith, of)

pub whole_again : (signed : Bool) (max : ℕ) (s : Spot) (a rest : List ℕ) (v : ℤ) → IsGreatestLength max → Whole signed max a v → s.left ≡ a ++ rest → whole_at signed max s ≡ Ok (v, onward s rest)
whole_again signed max s a rest v of whole e = by whole.spelled
  where
    by : IsShort signed max a v ⊎ IsLong signed max a v → whole_at signed max s ≡ Ok (v, onward s rest)
    by (inl short) = again_short signed max s v rest whole.of_type short.1 (e ∙ ap (λ (bytes : List ℕ). bytes ++ rest) short.0)
    by (inr long) = again_long signed max s a rest v (at_most_64 max of) whole.of_type long e

pub none_stands : (signed : Bool) (max : ℕ) (old new : Spot) (result : Result ℤ ByteFault) → IsGreatestLength max → Reads (λ v. v) result old new (whole_at signed max old)
    → IfErr result (λ f. (v : ℤ) (rest : List ℕ) → Begins (Whole signed max) old.left v rest → ⊥)
none_stands signed max old new (Ok v) of read = tt
none_stands signed max old new (Err f) of read = λ v rest begins.
    let again = whole_again signed max old begins.0 rest v of begins.1 begins.2 in absurd (let no = read.0 in cc)

-- ---- one spelling

same_onto : (a b : List ℕ) (m n : ℕ) → IsBytes a → IsBytes b → length a ≡ length b → fold (λ n b. n * 256 + b) m a ≡ fold (λ n b. n * 256 + b) n b → (m ≡ n) × (a ≡ b)
same_onto [] [] m n fits fits' len e = (e, refl)
same_onto [] (y ∷ b) m n fits fits' len e = absurd (omega arith)
same_onto (x ∷ a) [] m n fits fits' len e = absurd (omega arith)
same_onto (x ∷ a) (y ∷ b) m n fits fits' len e =
    let inner = same_onto a b (m * 256 + x) (n * 256 + y) (IsBytes-rest x a fits) (IsBytes-rest y b fits') (omega arith) e in
    let low : x < 256 = fits 0 in
    let low' : y < 256 = fits' 0 in
    let same : x ≡ y = omega (arith, inner.0) in
    (omega (arith, inner.0), cc)

first_of_take : (k : ℕ) (b : List ℕ) → 0 < k → get_or (take k b) 0 0 ≡ get_or b 0 0
first_of_take zero b some = absurd (omega arith)
first_of_take (suc k) [] some = refl
first_of_take (suc k) (y ∷ b) some = refl

not_longer : (a b : List ℕ) → IsBytes a → IsBytes b → 0 < get_or b 0 0 → size_in a ≡ size_in b → length b ≤ length a
not_longer a b fits fits' some e =
    elim (cases_lt (length a) (length b)) [
      | inl lt ↦
          let k = length b - length a in
          let split : size_in b ≡ fold (λ n b. n * 256 + b) (size_in (take k b)) (drop k b) = ap size_in (sym (take-append-drop k b)) ∙ size_append 0 (take k b) (drop k b) in
          let len : length a ≡ length (drop k b) = omega (arith, length-drop k b) in
          let same = same_onto a (drop k b) 0 (size_in (take k b)) fits (IsBytes-drop k b fits') len (e ∙ split) in
          let first : get_or (take k b) 0 0 ≡ get_or b 0 0 = first_of_take k b (omega arith) in
          let more : 0 < size_in (take k b) = size_some (take k b) (omega arith) in
          absurd (omega (arith, same.0))
      | inr ge ↦ ge
    ]

same_size : (a b : List ℕ) → IsBytes a → IsBytes b → 0 < get_or a 0 0 → 0 < get_or b 0 0 → size_in a ≡ size_in b → a ≡ b
same_size a b fits fits' some some' e =
    let le = not_longer a b fits fits' some' e in
    let ge = not_longer b a fits' fits some (sym e) in
    let same = same_onto a b 0 0 fits fits' (omega arith) e in same.1

same_whole : (signed : Bool) (max : ℕ) (a b : List ℕ) (v : ℤ) → Whole signed max a v → Whole signed max b v → a ≡ b
same_whole signed max a b v first second = by first.spelled second.spelled
  where
    by : IsShort signed max a v ⊎ IsLong signed max a v → IsShort signed max b v ⊎ IsLong signed max b v → a ≡ b
    by (inl s) (inl t) = s.0 ∙ sym t.0
    by (inl s) (inr t) = absurd (omega (arith, s.1, t.above))
    by (inr s) (inl t) = absurd (omega (arith, t.1, s.above))
    by (inr s) (inr t) =
        let size : s.size ≡ t.size = same_size s.size t.size s.of_bytes t.of_bytes s.highest t.highest (s.value ∙ sym t.value) in
        s.spelled ∙ ap (λ (size : List ℕ). prefix_of signed v (length size) ∷ size) size ∙ sym t.spelled

found_in : Result (ℤ × Spot) ByteFault → Found ℤ
found_in (Ok x) = Some (x.0, x.1.left)
found_in (Err f) = None

pub whole_code : (signed : Bool) (max : ℕ) → IsGreatestLength max → IsPrefixCode (Whole signed max)
unfolding found_in
whole_code signed max of = prefix_code (Whole signed max) (λ bytes. found_in (whole_at signed max (record { end = 0; left = bytes }))) (same_whole signed max)
    (λ a rest v whole. ap found_in (whole_again signed max (record { end = 0; left = a ++ rest }) a rest v of whole refl))

pub length_inside : (signed : Bool) (max prefix : ℕ) → IsGreatestLength max → small_limit signed max ≤ prefix → prefix < 256 → (1 ≤ length_behind signed prefix) × (length_behind signed prefix ≤ max)
length_inside true max prefix of above small = (omega arith, few_behind true max prefix of small above)
length_inside false max prefix of above small = (omega arith, few_behind false max prefix of small above)

-- ---- every value has one

IsBytes-push : (bytes : List ℕ) (b : ℕ) → IsBytes bytes → b < 256 → IsBytes (bytes ++ b ∷ [])
IsBytes-push [] b fits small zero = small
IsBytes-push [] b fits small (suc i) = omega arith
IsBytes-push (x ∷ bytes) b fits small zero = fits 0
IsBytes-push (x ∷ bytes) b fits small (suc i) = IsBytes-push bytes b (IsBytes-rest x bytes fits) small i

first_stays : (bytes : List ℕ) (b : ℕ) → 0 < get_or bytes 0 0 → 0 < get_or (bytes ++ b ∷ []) 0 0
first_stays [] b some = absurd (omega arith)
first_stays (x ∷ bytes) b some = some

sizes_exist : (k n : ℕ) → 0 < n → n < 256 ^ k → (size : List ℕ) × (size_in size ≡ n) × (length size ≤ k) × (0 < get_or size 0 0) × IsBytes size
sizes_exist zero n some small = absurd (omega arith)
sizes_exist (suc k) n some small =
    elim (cases_lt n 256) [
      | inl low ↦ (n ∷ [], omega arith, omega arith, some, IsBytes-push [] n (λ i. omega arith) low)
      | inr high ↦
          let power : 256 ^ suc k ≡ 256 ^ k * 256 = rw (← add-one k) (pow_more 256 k) in
          let inner = sizes_exist k (n / 256) (omega arith) (omega (arith, power)) in (
            inner.0 ++ (n % 256) ∷ [],
            size_append 0 inner.0 ((n % 256) ∷ []) ∙ ap (λ (m : ℕ). m * 256 + n % 256) inner.1 ∙ omega arith,
            omega (arith, length-append inner.0 ((n % 256) ∷ []), inner.2),
            first_stays inner.0 (n % 256) inner.3,
            IsBytes-push inner.0 (n % 256) inner.4 (omega arith),
          )
    ]

-- a value's size has no more bytes than the greatest length
bound_fits : (signed : Bool) (max : ℕ) → IsGreatestLength max → cond signed (bound_of signed max + 1) (bound_of signed max) ≤ 256 ^ max
bound_fits true max (inl e) = rw e (lit≤ tt)
bound_fits false max (inl e) = rw e (lit≤ tt)
bound_fits true max (inr (inl e)) = rw e (lit≤ tt)
bound_fits false max (inr (inl e)) = rw e (lit≤ tt)
bound_fits true max (inr (inr (inl e))) = rw e (lit≤ tt)
bound_fits false max (inr (inr (inl e))) = rw e (lit≤ tt)
bound_fits true max (inr (inr (inr (inl e)))) = rw e (lit≤ tt)
bound_fits false max (inr (inr (inr (inl e)))) = rw e (lit≤ tt)
bound_fits true max (inr (inr (inr (inr e)))) = rw e (lit≤ tt)
bound_fits false max (inr (inr (inr (inr e)))) = rw e (lit≤ tt)

pub size_fits : (signed : Bool) (max : ℕ) (v : ℤ) → IsGreatestLength max → in_range signed max v ≡ true → unsigned_abs v < 256 ^ max
size_fits true max (pos n) of inside = omega (arith, bound_fits true max of, ltb-true n (bound_of true max) inside)
size_fits true max (negsuc n) of inside = omega (arith, bound_fits true max of, ltb-true n (bound_of true max) inside)
size_fits false max (pos n) of inside = omega (arith, bound_fits false max of, ltb-true n (bound_of false max) inside)
size_fits false max (negsuc n) of inside = absurd cc

limit_some : (signed : Bool) (max : ℕ) → max ≤ 64 → 0 < small_limit signed max
limit_some signed max small = by (max == 1) signed
  where
    by : (b signed : Bool) → 0 < cond b 256 (cond signed (256 - 2 * max) (256 - max))
    by true signed = omega arith
    by false true = omega arith
    by false false = omega arith

-- a value whose code is no byte of its own isn't 0
abs_some : (signed : Bool) (max : ℕ) (v : ℤ) → max ≤ 64 → small_limit signed max ≤ code_of signed v → 0 < unsigned_abs v
abs_some signed max (negsuc n) small above = by signed above
  where
    by : (signed : Bool) → small_limit signed max ≤ code_of signed (negsuc n) → 0 < unsigned_abs (negsuc n)
    by signed above = omega arith
abs_some signed max (pos zero) small above = absurd (let limit : 0 < small_limit signed max = limit_some signed max small in by signed limit above)
  where
    by : (signed : Bool) → 0 < small_limit signed max → small_limit signed max ≤ code_of signed (pos zero) → ⊥
    by true limit above = omega arith
    by false limit above = omega arith
abs_some signed max (pos (suc n)) small above = omega arith

pub every_whole : (signed : Bool) (max : ℕ) (v : ℤ) → IsGreatestLength max → IsTrue (in_range signed max v) → (bytes : List ℕ) × Whole signed max bytes v
every_whole signed max v of inside =
    elim (cases_lt (code_of signed v) (small_limit signed max)) [
      | inl short ↦ (code_of signed v ∷ [], record { of_type = inside; spelled = inl (refl, short) })
      | inr above ↦
          let size = sizes_exist max (unsigned_abs v) (abs_some signed max v (at_most_64 max of) above) (size_fits signed max v of inside) in (
            prefix_of signed v (length size.0) ∷ size.0,
            record {
              of_type = inside;
              spelled = inr (record { size = size.0; spelled = refl; value = size.1; few = size.2; highest = size.3; of_bytes = size.4; above = above });
            },
          )
    ]
