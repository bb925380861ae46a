-- The text of a source is its longest front that is UTF-8 and has no zero byte.
use Rattle.std.proofs.Common.{◌≡◌, ◌≤◌, ◌+◌, ℕ, zero, suc, Bool, true, false, cond, not, List, [], ◌∷◌, ◌++◌, length, take, drop, Option, Some, None, min, sym, ap, ◌∙◌, refl, subst, arith}
use Rattle.std.specs.Prelude.{slice_get}
use Rattle.std.specs.List.{position_or_len}
use Rattle.std.specs.Str.{chars, IsUtf8, is_utf8, encode_utf8_all, all_scalars}
use Rattle.std.specs.Str.Lossy.{utf8_valid_len, valid_len_up_to}
use Rattle.std.proofs.lemmas.List.{length-append, length-take, take-append-drop, take_at, drop_at}
use Rattle.std.proofs.lemmas.List.Sums.{prefix_len-le-length}
use Rattle.std.proofs.lemmas.Str.{IsUtf8-nil, IsUtf8-from_is_utf8, is_utf8-from_IsUtf8, IsUtf8-take, chars-encodes, encodes-chars, scalars-chars, utf8_valid_len_le}
use Rattle.go_lexer.specs.FaultGrammar.{HasNoNul, IsTextOf}
use Rattle.go_lexer.specs.Source.{is_nul, valid_front, text_of, ending_at, ending_of}
use Rattle.go_lexer.proofs.Sources.{nul_boundary}

-- the longest front that is UTF-8
front_by : (bs : List ℕ) (n : ℕ) (b : Bool) → is_utf8 (take (suc n) bs) ≡ b → IsUtf8 (take (valid_len_up_to bs n) bs) → IsUtf8 (take (cond b (suc n) (valid_len_up_to bs n)) bs)
front_by bs n true e h = IsUtf8-from_is_utf8 (take (suc n) bs) e
front_by bs n false e h = h

front_utf8 : (bs : List ℕ) (n : ℕ) → IsUtf8 (take (valid_len_up_to bs n) bs)
front_utf8 bs zero = IsUtf8-nil
front_utf8 bs (suc n) = front_by bs n (is_utf8 (take (suc n) bs)) refl (front_utf8 bs n)

valid_utf8 : (bs : List ℕ) → IsUtf8 (valid_front bs)
unfolding utf8_valid_len
valid_utf8 bs = front_utf8 bs (length bs)

most_by : (bs : List ℕ) (n k : ℕ) (b : Bool) → is_utf8 (take (suc n) bs) ≡ b → k ≤ suc n → IsUtf8 (take k bs) → (k ≤ n → k ≤ valid_len_up_to bs n) → k ≤ cond b (suc n) (valid_len_up_to bs n)
most_by bs n k true e l u f = l
most_by bs n k false e l u f = f (omega (arith, other))
  where
    other : k ≡ suc n → ⊥
    other s = let h : true ≡ false = sym (is_utf8-from_IsUtf8 (take k bs) u) ∙ ap (λ m. is_utf8 (take m bs)) s ∙ e in cc

most_utf8 : (bs : List ℕ) (n k : ℕ) → k ≤ n → IsUtf8 (take k bs) → k ≤ valid_len_up_to bs n
most_utf8 bs zero k l u = omega arith
most_utf8 bs (suc n) k l u = most_by bs n k (is_utf8 (take (suc n) bs)) refl l u (λ h. most_utf8 bs n k h u)

longest_utf8 : (bs : List ℕ) (k : ℕ) → k ≤ length bs → IsUtf8 (take k bs) → k ≤ utf8_valid_len bs
unfolding utf8_valid_len
longest_utf8 bs k l u = most_utf8 bs (length bs) k l u

-- the front with no zero byte
before_nul_by : (t : Bool) (c n : ℕ) (cs : List ℕ) → not (is_nul c) ≡ t → HasNoNul (take n cs) → HasNoNul (take (cond t (1 + n) 0) (c ∷ cs))
before_nul_by true c n cs e h = let one : suc n ≡ 1 + n = omega arith in subst (λ k. HasNoNul (take k (c ∷ cs))) one (e, h)
before_nul_by false c n cs e h = tt

before_nul : (cs : List ℕ) → HasNoNul (take (position_or_len is_nul cs) cs)
before_nul [] = tt
before_nul (c ∷ cs) = before_nul_by (not (is_nul c)) c (position_or_len is_nul cs) cs refl (before_nul cs)

nul_most_by : (t : Bool) (n k : ℕ) → t ≡ true → k ≤ n → suc k ≤ cond t (1 + n) 0
nul_most_by true n k e h = omega arith
nul_most_by false n k e h = cc

nul_most : (k : ℕ) (cs : List ℕ) → k ≤ length cs → HasNoNul (take k cs) → k ≤ position_or_len is_nul cs
nul_most zero cs l h = omega arith
nul_most (suc k) [] l h = absurd (omega arith)
nul_most (suc k) (c ∷ cs) l h = nul_most_by (not (is_nul c)) (position_or_len is_nul cs) k h.0 (nul_most k cs (omega arith) h.1)

-- fronts of one list
taken : (k n : ℕ) (l : List ℕ) → k ≤ n → take k (take n l) ≡ take k l
taken zero n l h = refl
taken (suc k) zero l h = absurd (omega arith)
taken (suc k) (suc n) [] h = refl
taken (suc k) (suc n) (c ∷ l) h = ap (λ x. c ∷ x) (taken k n l (omega arith))

front_taken : (x y l : List ℕ) → x ++ y ≡ l → x ≡ take (length x) l
front_taken x y l e = sym (take_at x y (length x) refl) ∙ ap (take (length x)) e

rest_dropped : (x y l : List ℕ) → x ++ y ≡ l → y ≡ drop (length x) l
rest_dropped x y l e = sym (drop_at x y (length x) refl) ∙ ap (drop (length x)) e

text_front : (src : List ℕ) → text_of src ≡ take (length (text_of src)) src
text_front src =
    let v : List ℕ = valid_front src in
    let p : ℕ = position_or_len is_nul v in
    let most : p ≤ length v = prefix_len-le-length (λ (x : ℕ). not (is_nul x)) v in
    let long : length (text_of src) ≡ min p (length v) = length-take p v in
    let valid_long : length v ≡ min (utf8_valid_len src) (length src) = length-take (utf8_valid_len src) src in
    let same : length (text_of src) ≡ p = omega arith in
    taken p (utf8_valid_len src) src (omega arith) ∙ ap (λ k. take k src) (sym same)

text_utf8 : (src : List ℕ) → IsUtf8 (text_of src)
text_utf8 src = IsUtf8-take (valid_front src) (position_or_len is_nul (valid_front src)) (valid_utf8 src) (nul_boundary (valid_front src) (position_or_len is_nul (valid_front src)) refl)

pub after_of : List ℕ → List ℕ
after_of src = drop (length (text_of src)) src

longest_text : (src others more : List ℕ) → all_scalars others ≡ true → encode_utf8_all others ++ more ≡ src → HasNoNul (encode_utf8_all others) → length (encode_utf8_all others) ≤ length (text_of src)
longest_text src others more s e n =
    let o : List ℕ = encode_utf8_all others in
    let v : List ℕ = valid_front src in
    let front : o ≡ take (length o) src = front_taken o more src e in
    let long : length o + length more ≡ length src = sym (length-append o more) ∙ ap length e in
    let valid : length o ≤ utf8_valid_len src = longest_utf8 src (length o) (omega arith) (subst IsUtf8 front (others, (s, refl))) in
    let most : utf8_valid_len src ≤ length src = utf8_valid_len_le src in
    let valid_long : length v ≡ min (utf8_valid_len src) (length src) = length-take (utf8_valid_len src) src in
    let inside : length o ≤ length v = omega arith in
    let place : length o ≤ position_or_len is_nul v = nul_most (length o) v inside (subst HasNoNul (front ∙ sym (taken (length o) (utf8_valid_len src) src valid)) n) in
    let text_long : length (text_of src) ≡ min (position_or_len is_nul v) (length v) = length-take (position_or_len is_nul v) v in
    omega arith

pub text_takes : (src : List ℕ) → IsTextOf src (chars (text_of src)) (after_of src)
unfolding after_of
text_takes src =
    let u : IsUtf8 (text_of src) = text_utf8 src in
    let same : encode_utf8_all (chars (text_of src)) ≡ text_of src = encodes-chars (text_of src) u in
    record {
      scalars = scalars-chars (text_of src) u;
      utf8 = ap (λ l. l ++ drop (length (text_of src)) src) (same ∙ text_front src) ∙ take-append-drop (length (text_of src)) src;
      no_nul = subst HasNoNul (sym same) (before_nul (valid_front src));
      longest = λ others more s e n. subst (λ l. length (encode_utf8_all others) ≤ length l) (sym same) (longest_text src others more s e n);
    }

module _ (src characters after : List ℕ) (are : IsTextOf src characters after) where
  pub text_again : encode_utf8_all characters ≡ text_of src
  text_again =
      let t = text_takes src in
      let same : encode_utf8_all (chars (text_of src)) ≡ text_of src = encodes-chars (text_of src) (text_utf8 src) in
      let one : length (encode_utf8_all characters) ≤ length (encode_utf8_all (chars (text_of src))) = t.longest characters after are.scalars are.utf8 are.no_nul in
      let other : length (encode_utf8_all (chars (text_of src))) ≤ length (encode_utf8_all characters) = are.longest (chars (text_of src)) (after_of src) t.scalars t.utf8 t.no_nul in
      let long : length (encode_utf8_all (chars (text_of src))) ≡ length (text_of src) = ap length same in
      let equal : length (encode_utf8_all characters) ≡ length (text_of src) = omega arith in
      front_taken (encode_utf8_all characters) after src are.utf8 ∙ ap (λ k. take k src) equal ∙ sym (text_front src)

  pub chars_again : chars (text_of src) ≡ characters
  chars_again = ap chars (sym text_again) ∙ chars-encodes characters are.scalars

  pub after_again : after ≡ after_of src
  unfolding after_of
  after_again = rest_dropped (encode_utf8_all characters) after src are.utf8 ∙ ap (λ l. drop (length l) src) text_again

-- the byte after the text
abbrev pub head_of : List ℕ → Option ℕ
head_of [] = None
head_of (b ∷ bs) = Some b

get_head : (src : List ℕ) (n : ℕ) → slice_get src n ≡ head_of (drop n src)
get_head [] zero = refl
get_head [] (suc n) = refl
get_head (b ∷ src) zero = refl
get_head (b ∷ src) (suc n) = get_head src n

pub ending_is : (src : List ℕ) → ending_of src ≡ ending_at (head_of (after_of src))
unfolding after_of
ending_is src = ap ending_at (get_head src (length (text_of src)))
