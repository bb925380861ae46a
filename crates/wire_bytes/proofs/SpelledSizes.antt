-- Spelling a size: the bytes so far, from the last one on, and each step.
use Rattle.std.proofs.Common.{◌≡◌, ℕ, zero, suc, ◌+◌, ◌-◌, ◌*◌, ◌/◌, ◌%◌, ◌^◌, ◌<◌, ◌≤◌, Bool, true, false, List, [], ◌∷◌, length, drop, set, get_or, refl, sym, ap, subst, ◌∙◌, arith, inl, inr, add-one}
use Rattle.std.specs.Prelude.{ℤ, negsuc, unsigned_abs, fold}
use Rattle.std.proofs.lemmas.Grind.{pow_more}
use Rattle.std.proofs.lemmas.List.{drop-set, drop_all, length-drop, length-set}
use Rattle.std.proofs.lemmas.Bool.{cases_lt}
use Rattle.std.proofs.Math.Nat.{pow-le-pow_right, mul-le-mul_right}
use Rattle.wire_bytes.specs.Whole.{IsGreatestLength, in_range, code_of, prefix_of, small_limit, size_in, with_sign, Whole}
use Rattle.wire_bytes.proofs.Spellings.{IsBytes}
use Rattle.wire_bytes.proofs.WholeSpellings.{size_fits}

-- the room from the start on holds the low bytes of the number, and the rest is what is left of it
pub record SizeSoFar (number rest start : ℕ) (room : List ℕ) : Type 0 where
  pub some : 1 ≤ start
  pub inside : start ≤ 17
  pub wide : length room ≡ 17
  pub small : rest < 256 ^ (start - 1)
  pub spelled : fold (λ n b. n * 256 + b) rest (drop start room) ≡ number
  pub highest : rest ≡ 0 → 0 < get_or (drop start room) 0 0
  pub bytes : IsBytes (drop start room)

IsBytes-more : (b : ℕ) (bytes : List ℕ) → b < 256 → IsBytes bytes → IsBytes (b ∷ bytes)
IsBytes-more b bytes small fits zero = small
IsBytes-more b bytes small fits (suc i) = fits i

pub begins : (number : ℕ) (room : List ℕ) → 0 < number → number < 2 ^ 128 → length room ≡ 17 → SizeSoFar number number 17 room
begins number room some small wide =
    let nothing : drop 17 room ≡ [] = drop_all 17 room (omega arith) in
    record {
      some = omega arith;
      inside = omega arith;
      wide = wide;
      small = omega arith;
      spelled = ap (fold (λ n b. n * 256 + b) number) nothing;
      highest = λ none. absurd (omega arith);
      bytes = subst IsBytes (sym nothing) (λ i. omega arith);
    }

-- there is room for one more
pub room_left : (number rest start : ℕ) (room : List ℕ) → SizeSoFar number rest start room → 0 < rest → 2 ≤ start
room_left number rest zero room so more = absurd (omega (arith, so.some))
room_left number rest (suc zero) room so more = absurd (let small : rest < 1 = so.small in omega arith)
room_left number rest (suc (suc start)) room so more = omega arith

pub goes_on : (number rest start : ℕ) (room : List ℕ) → SizeSoFar number rest start room → 0 < rest → SizeSoFar number (rest / 256) (start - 1) (set room (start - 1) (rest % 256))
goes_on number rest start room so more =
    let two : 2 ≤ start = room_left number rest start room so more in
    let next : start - 1 + 1 ≡ start = omega arith in
    let inside : start - 1 < length room = omega (arith, so.inside, so.wide) in
    let here : drop (start - 1) (set room (start - 1) (rest % 256)) ≡ (rest % 256) ∷ drop start room = drop-set room (start - 1) (rest % 256) inside ∙ ap (λ (n : ℕ). (rest % 256) ∷ drop n room) next in
    let before : start - 1 ≡ start - 1 - 1 + 1 = omega arith in
    let power : 256 ^ (start - 1) ≡ 256 ^ (start - 1 - 1) * 256 = ap (λ (n : ℕ). 256 ^ n) before ∙ pow_more 256 (start - 1 - 1) in
    let value : rest / 256 * 256 + rest % 256 ≡ rest = omega arith in
    record {
      some = omega arith;
      inside = omega (arith, so.inside);
      wide = length-set room (start - 1) (rest % 256) ∙ so.wide;
      small = omega (arith, so.small, power);
      spelled = ap (fold (λ n b. n * 256 + b) (rest / 256)) here ∙ ap (λ (n : ℕ). fold (λ n b. n * 256 + b) n (drop start room)) value ∙ so.spelled;
      highest = λ none. subst (λ (bytes : List ℕ). 0 < get_or bytes 0 0) (sym here) (omega arith);
      bytes = subst IsBytes (sym here) (IsBytes-more (rest % 256) (drop start room) (omega arith) so.bytes);
    }

pub ends : (number rest start : ℕ) (room : List ℕ) → SizeSoFar number rest start room → rest ≡ 0
    → (size_in (drop start room) ≡ number) × (0 < get_or (drop start room) 0 0) × (start ≤ 16)
ends number rest start room so none =
    let highest = so.highest none in (
      ap (λ (n : ℕ). fold (λ n b. n * 256 + b) n (drop start room)) (sym none) ∙ so.spelled,
      highest,
      elim (cases_lt start 17) [
        | inl lt ↦ omega arith
        | inr ge ↦ absurd (let nothing : drop start room ≡ [] = drop_all start room (omega (arith, so.wide)) in let no : 0 < get_or [] 0 0 = subst (λ (bytes : List ℕ). 0 < get_or bytes 0 0) nothing highest in omega arith)
      ],
    )

-- ---- a value of a type

pub signed_below : (signed negative : Bool) (max n : ℕ) (v : ℤ) → in_range signed max v ≡ true → with_sign negative n ≡ v → (negative ≡ true → 0 < n) → negative ≡ true → signed ≡ true
signed_below true negative max n v of parts some is = refl
signed_below false true max zero v of parts some is = absurd (let no = some refl in omega arith)
signed_below false true max (suc n) v of parts some is = absurd (let no : in_range false max (negsuc n) ≡ true = ap (in_range false max) parts ∙ of in cc)
signed_below false false max n v of parts some is = absurd cc

pub spelled_short : (signed : Bool) (max code : ℕ) (v w : ℤ) (room : List ℕ) → in_range signed max v ≡ true → w ≡ v → code_of signed w < small_limit signed max → code ≡ code_of signed w → length room ≡ 17
    → Whole signed max (drop 16 (set room 16 code)) v
spelled_short signed max code v w room of is short code-is wide =
    let here : drop 16 (set room 16 code) ≡ code ∷ [] = drop-set room 16 code (omega arith) ∙ ap (λ (bytes : List ℕ). code ∷ bytes) (drop_all 17 room (omega arith)) in
    record {
      of_type = of;
      spelled = inl (here ∙ ap (λ (c : ℕ). c ∷ []) (code-is ∙ ap (code_of signed) is), subst (λ (u : ℤ). code_of signed u < small_limit signed max) is short);
    }

power_grows : (n : ℕ) (bytes : List ℕ) → n * 256 ^ length bytes ≤ fold (λ n b. n * 256 + b) n bytes
power_grows n [] = omega arith
power_grows n (b ∷ bytes) =
    let power : 256 ^ suc (length bytes) ≡ 256 ^ length bytes * 256 = rw (← add-one (length bytes)) (pow_more 256 (length bytes)) in
    let more : (n * 256) * 256 ^ length bytes ≤ (n * 256 + b) * 256 ^ length bytes = mul-le-mul_right (256 ^ length bytes) (omega arith) in
    rw power (omega (arith, power_grows (n * 256 + b) bytes, more))

few_bytes : (size : List ℕ) (k : ℕ) → 0 < get_or size 0 0 → size_in size < 256 ^ k → length size ≤ k
few_bytes [] k some small = omega arith
few_bytes (b ∷ bytes) k some small =
    elim (cases_lt k (length (b ∷ bytes))) [
      | inl more ↦
          let positive : 0 < 256 = omega arith in
          let enough : k ≤ length bytes = omega arith in
          let power : 256 ^ k ≤ 256 ^ length bytes = pow-le-pow_right positive enough in
          let one : 1 * 256 ^ length bytes ≤ b * 256 ^ length bytes = mul-le-mul_right (256 ^ length bytes) some in
          absurd (omega (arith, power_grows (0 * 256 + b) bytes, power, one))
      | inr le ↦ le
    ]

pub spelled_long : (signed : Bool) (max prefix start n : ℕ) (v w : ℤ) (room : List ℕ) → IsGreatestLength max → in_range signed max v ≡ true → w ≡ v → n ≡ unsigned_abs w → (code_of signed w < small_limit signed max → ⊥)
    → 1 ≤ start → start ≤ 16 → size_in (drop start room) ≡ n → 0 < get_or (drop start room) 0 0 → prefix ≡ prefix_of signed w (17 - start) → length room ≡ 17 → ((i : ℕ) → get_or (drop start room) i 0 < 256)
    → Whole signed max (drop (start - 1) (set room (start - 1) prefix)) v
spelled_long signed max prefix start n v w room greatest of is size-is long one le spelled highest prefix-is wide fits =
    let size = drop start room in
    let next : start - 1 + 1 ≡ start = omega arith in
    let here : drop (start - 1) (set room (start - 1) prefix) ≡ prefix ∷ size = drop-set room (start - 1) prefix (omega arith) ∙ ap (λ (n : ℕ). prefix ∷ drop n room) next in
    let len : length size ≡ 17 - start = omega (arith, length-drop start room) in
    let value : size_in size ≡ unsigned_abs v = spelled ∙ size-is ∙ ap unsigned_abs is in
    let above : small_limit signed max ≤ code_of signed w = elim (cases_lt (code_of signed w) (small_limit signed max)) [ inl lt ↦ absurd (long lt) | inr ge ↦ ge ] in
    record {
      of_type = of;
      spelled = inr (record {
        size = size;
        spelled = here ∙ ap (λ (p : ℕ). p ∷ size) (prefix-is ∙ ap (λ (u : ℤ). prefix_of signed u (17 - start)) is ∙ ap (prefix_of signed v) (sym len));
        value = value;
        few = few_bytes size max highest (subst (λ (m : ℕ). m < 256 ^ max) (sym value) (size_fits signed max v greatest of));
        highest = highest;
        of_bytes = fits;
        above = subst (λ (u : ℤ). small_limit signed max ≤ code_of signed u) is above;
      });
    }
