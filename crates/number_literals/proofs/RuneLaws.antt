-- The value of a rune literal is read, in both directions.
use Rattle.std.proofs.Common.{◌≡◌, ◌≢◌, ◌≤◌, ◌<◌, ◌+◌, ◌*◌, ◌^◌, ℕ, suc, Bool, true, false, cond, ◌||◌, ◌==◌, List, [], ◌∷◌, ◌++◌, length, Option, Some, None, option_map, option_and_then, sym, ap, ◌∙◌, refl, subst, ⊎_elim, arith, eqb, ltb, nat_lt, append-nil}
use borrow.Author.Tests.{true-eqb}
use Rattle.std.proofs.lemmas.Bool.{lt-ltb}
use Rattle.std.proofs.lemmas.Bool.Decides.{nat_tests}
use Rattle.std.proofs.lemmas.Str.{encode_ascii, cons_from_encodes, chars-encodes, encodes-chars, scalars-chars, IsUtf8-from_is_utf8, is_utf8-from_IsUtf8}
use Rattle.std.proofs.Math.Nat.{add-mul, pow-zero, pow-succ', mul-le-mul}
use Rattle.std.specs.Prelude.{IfSome, IfNone}
use Rattle.std.specs.Char.{digit_value, encode_utf8}
use Rattle.std.specs.Str.{chars, IsUtf8, is_utf8, encode_utf8_all, all_scalars}
use Rattle.go_lexer.specs.Characters.{line_feed, single_quote, backslash, Each}
use Rattle.go_lexer.specs.Escapes.{is_code_point}
use Rattle.go_lexer.proofs.Choices.{chosen}
use Rattle.go_lexer.proofs.Turns.{chars_some, chars_none}
use Rattle.number_literals.specs.PlaceValues.{place_sum}
use Rattle.number_literals.specs.Reading.{if_valid}
use Rattle.number_literals.specs.Runes.{AreDigitsOf, IsRuneEscape, alert, backspace, form_feed, new_line, carriage_return, horizontal_tab, vertical_tab, a_backslash, quote, octal, hexadecimal, short_code_point, long_code_point, IsRuneInside, character, escaped, HasRune, quoted}
use Rattle.number_literals.specs.RuneReading.{fixed_run, fixed_of, byte_of, code_point_of, simple_of, numbered_of, escape_of, one_of, plain_of_one, character_of, inside_of, before_quote, rune_of}
use Rattle.number_literals.proofs.Sums.{longer}

if_yes : {A : Type 0} (b : Bool) (x y : A) → b ≡ true → cond b x y ≡ x
if_yes b x y h = ap (λ t. cond t x y) h

if_no : {A : Type 0} (b : Bool) (x y : A) → b ≡ false → cond b x y ≡ y
if_no b x y h = ap (λ t. cond t x y) h

is : (c d : ℕ) → eqb c d ≡ true → c ≡ d
is c d e = true-eqb c d (sym e)

apart : (c d : ℕ) → c ≢ d → eqb c d ≡ false
apart c d n = by_eqb (eqb c d) refl
  where
    by_eqb : (b : Bool) → eqb c d ≡ b → b ≡ false
    by_eqb true h = absurd (n (true-eqb c d (sym h)))
    by_eqb false h = refl

differs : (c d : ℕ) → eqb c d ≡ false → c ≢ d
differs c d e s = let h : eqb c d ≡ true = grind (arith, nat_tests) in let k : true ≡ false = sym h ∙ e in cc

valid : (b : Bool) (n m : ℕ) → if_valid b n ≡ Some m → (b ≡ true) × (n ≡ m)
valid true n m e = (refl, (let h : n ≡ m = (cc) in h))
valid false n m e = cc

-- digits
abbrev pub digit_in : ℕ → ℕ → Bool
digit_in base d = nat_lt (digit_value d) base

module _ (base : ℕ) where
  abbrev Sum : ℕ → List ℕ → ℕ
  Sum v ds = v * base ^ length ds + place_sum base ds

  sum_none : (v : ℕ) → Sum v [] ≡ v
  sum_none v = ap (λ p. v * p + 0) (pow-zero base) ∙ (let e : v * 1 + 0 ≡ v = omega arith in e)

  run_again : (ds : List ℕ) (v : ℕ) → Each (digit_in base) ds → fixed_run base ds v ≡ Some (Sum v ds)
  run_again [] v h = ap Some (sym (sum_none v))
  run_again (d ∷ ds) v h =
      if_yes (ltb (digit_value d) base) (fixed_run base ds (v * base + digit_value d)) None h.0
      ∙ run_again ds (v * base + digit_value d) h.1 ∙ ap Some (longer base v (digit_value d) (length ds) (place_sum base ds))

  run_takes : (ds : List ℕ) (v w : ℕ) → fixed_run base ds v ≡ Some w → Each (digit_in base) ds × (Sum v ds ≡ w)
  run_takes [] v w e = (tt, sum_none v ∙ (let h : v ≡ w = (cc) in h))
  run_takes (d ∷ ds) v w e = ⊎_elim
      (λ h. let k = run_takes ds (v * base + digit_value d) w h.1 in ((h.0, k.0), sym (longer base v (digit_value d) (length ds) (place_sum base ds)) ∙ k.1))
      (λ h. cc (h.1))
      (chosen (ltb (digit_value d) base) (fixed_run base ds (v * base + digit_value d)) None (Some w) e)

  whole_sum : (ds : List ℕ) → Sum 0 ds ≡ place_sum base ds
  whole_sum ds = omega arith

  pub fixed_again : (n : ℕ) (ds : List ℕ) → AreDigitsOf base n ds → fixed_of base n ds ≡ Some (place_sum base ds)
  fixed_again n ds h =
      let test : eqb (length ds) n ≡ true = same (length ds) n h.1 in
      if_yes (eqb (length ds) n) _ None test ∙ run_again ds 0 h.0 ∙ ap Some (whole_sum ds)
    where
      same : (a b : ℕ) → a ≡ b → eqb a b ≡ true
      same a b e = grind (arith, nat_tests)

  fixed_takes : (n : ℕ) (ds : List ℕ) (w : ℕ) → fixed_of base n ds ≡ Some w → AreDigitsOf base n ds × (place_sum base ds ≡ w)
  fixed_takes n ds w e = ⊎_elim
      (λ h. let k = run_takes ds 0 w h.1 in ((k.0, is (length ds) n h.0), sym (whole_sum ds) ∙ k.1))
      (λ h. cc (h.1))
      (chosen (eqb (length ds) n) (fixed_run base ds 0) None (Some w) e)

  small : 1 ≤ base → (ds : List ℕ) → Each (digit_in base) ds → place_sum base ds < base ^ length ds
  small some [] h = let one : base ^ 0 ≡ 1 = pow-zero base in omega (arith, one)
  small some (d ∷ ds) h =
      let p : ℕ = base ^ length ds in
      let rest : place_sum base ds < p = small some ds h.1 in
      let digit : digit_value d < base = below (digit_value d) h.0 in
      let most : (digit_value d + 1) * p ≤ base * p = mul-le-mul {n₁ = digit_value d + 1} {m₁ = p} {n₂ = base} {m₂ = p} (omega arith) (omega arith) in
      let split : (digit_value d + 1) * p ≡ digit_value d * p + 1 * p = add-mul (digit_value d) 1 p in
      let power : base ^ suc (length ds) ≡ base * p = pow-succ' base (length ds) in
      omega (arith, rest, most, split, power)
    where
      below : (a : ℕ) → ltb a base ≡ true → a < base
      below a e = grind (arith, nat_tests)

byte_takes : (o : Option ℕ) (v : ℕ) → byte_of o ≡ Some v → (o ≡ Some v) × (v < 256)
byte_takes (Some w) v e = let h = valid (nat_lt w 256) w v e in (ap Some h.1, subst (λ x. x < 256) h.1 (below w h.0))
  where
    below : (a : ℕ) → nat_lt a 256 ≡ true → a < 256
    below a e = grind (arith, nat_tests)
byte_takes None v e = cc

code_point_takes : (o : Option ℕ) (v : ℕ) → code_point_of o ≡ Some v → (o ≡ Some v) × (is_code_point v ≡ true)
code_point_takes (Some w) v e = let h = valid (is_code_point w) w v e in (ap Some h.1, subst (λ x. is_code_point x ≡ true) h.1 h.0)
code_point_takes None v e = cc

byte_again : (o : Option ℕ) (v : ℕ) → o ≡ Some v → v < 256 → byte_of o ≡ Some v
byte_again o v e l = ap byte_of e ∙ ap (λ t. if_valid t v) (lt-ltb v 256 l)

code_point_again : (o : Option ℕ) (v : ℕ) → o ≡ Some v → is_code_point v ≡ true → code_point_of o ≡ Some v
code_point_again o v e l = ap code_point_of e ∙ ap (λ t. if_valid t v) l

-- escapes
escape_is : (c d v w : ℕ) → eqb c d ≡ true → Some v ≡ Some w → IsRuneEscape (d ∷ []) v → IsRuneEscape (c ∷ []) w
escape_is c d v w t e h = let k : v ≡ w = (cc) in subst (λ x. IsRuneEscape (x ∷ []) w) (sym (is c d t)) (subst (IsRuneEscape (d ∷ [])) k h)

own_takes : (c v : ℕ) → (c == 92 || c == 39) ≡ true → Some c ≡ Some v → IsRuneEscape (c ∷ []) v
own_takes c v t e = by_test (eqb c 92) refl t
  where
    by_test : (b : Bool) → eqb c 92 ≡ b → (b || c == 39) ≡ true → IsRuneEscape (c ∷ []) v
    by_test true h k = escape_is c 92 92 v h (ap Some (sym (is c 92 h)) ∙ e) a_backslash
    by_test false h k = escape_is c 39 39 v k (ap Some (sym (is c 39 k)) ∙ e) quote

simple_takes : (c v : ℕ) → simple_of c ≡ Some v → IsRuneEscape (c ∷ []) v
simple_takes c v e = ⊎_elim (λ h. escape_is c 97 7 v h.0 h.1 alert)
    (λ h1. ⊎_elim (λ h. escape_is c 98 8 v h.0 h.1 backspace)
    (λ h2. ⊎_elim (λ h. escape_is c 102 12 v h.0 h.1 form_feed)
    (λ h3. ⊎_elim (λ h. escape_is c 110 10 v h.0 h.1 new_line)
    (λ h4. ⊎_elim (λ h. escape_is c 114 13 v h.0 h.1 carriage_return)
    (λ h5. ⊎_elim (λ h. escape_is c 116 9 v h.0 h.1 horizontal_tab)
    (λ h6. ⊎_elim (λ h. escape_is c 118 11 v h.0 h.1 vertical_tab)
    (λ h7. ⊎_elim (λ h. own_takes c v h.0 h.1)
    (λ h. cc (h.1))
    (chosen (c == 92 || c == 39) _ _ _ h7.1))
    (chosen (eqb c 118) _ _ _ h6.1))
    (chosen (eqb c 116) _ _ _ h5.1))
    (chosen (eqb c 114) _ _ _ h4.1))
    (chosen (eqb c 110) _ _ _ h3.1))
    (chosen (eqb c 102) _ _ _ h2.1))
    (chosen (eqb c 98) _ _ _ h1.1))
    (chosen (eqb c 97) _ _ _ e)

hexadecimal_takes : (ds : List ℕ) (v : ℕ) → byte_of (fixed_of 16 2 ds) ≡ Some v → IsRuneEscape (120 ∷ ds) v
hexadecimal_takes ds v e =
    let b = byte_takes (fixed_of 16 2 ds) v e in
    let k = fixed_takes 16 2 ds v b.0 in
    subst (IsRuneEscape (120 ∷ ds)) k.1 (hexadecimal ds k.0)

octal_takes : (ds : List ℕ) (v : ℕ) → byte_of (fixed_of 8 3 ds) ≡ Some v → IsRuneEscape ds v
octal_takes ds v e =
    let b = byte_takes (fixed_of 8 3 ds) v e in
    let k = fixed_takes 8 3 ds v b.0 in
    subst (IsRuneEscape ds) k.1 (octal ds k.0 (subst (λ x. x < 256) (sym k.1) b.1))

short_takes : (ds : List ℕ) (v : ℕ) → code_point_of (fixed_of 16 4 ds) ≡ Some v → IsRuneEscape (117 ∷ ds) v
short_takes ds v e =
    let b = code_point_takes (fixed_of 16 4 ds) v e in
    let k = fixed_takes 16 4 ds v b.0 in
    subst (IsRuneEscape (117 ∷ ds)) k.1 (short_code_point ds k.0 (subst (λ x. is_code_point x ≡ true) (sym k.1) b.1))

long_takes : (ds : List ℕ) (v : ℕ) → code_point_of (fixed_of 16 8 ds) ≡ Some v → IsRuneEscape (85 ∷ ds) v
long_takes ds v e =
    let b = code_point_takes (fixed_of 16 8 ds) v e in
    let k = fixed_takes 16 8 ds v b.0 in
    subst (IsRuneEscape (85 ∷ ds)) k.1 (long_code_point ds k.0 (subst (λ x. is_code_point x ≡ true) (sym k.1) b.1))

numbered_takes : (c : ℕ) (ds : List ℕ) (v : ℕ) → numbered_of c ds ≡ Some v → IsRuneEscape (c ∷ ds) v
numbered_takes c ds v e = ⊎_elim
    (λ h. subst (λ x. IsRuneEscape (x ∷ ds) v) (sym (is c 120 h.0)) (hexadecimal_takes ds v h.1))
    (λ h. ⊎_elim
    (λ x. subst (λ y. IsRuneEscape (y ∷ ds) v) (sym (is c 117 x.0)) (short_takes ds v x.1))
    (λ x. ⊎_elim
    (λ y. subst (λ z. IsRuneEscape (z ∷ ds) v) (sym (is c 85 y.0)) (long_takes ds v y.1))
    (λ y. octal_takes (c ∷ ds) v y.1)
    (chosen (eqb c 85) _ _ _ x.1))
    (chosen (eqb c 117) _ _ _ h.1))
    (chosen (eqb c 120) _ _ _ e)

escape_takes : (cs : List ℕ) (v : ℕ) → escape_of cs ≡ Some v → IsRuneEscape cs v
escape_takes [] v e = cc
escape_takes (c ∷ []) v e = simple_takes c v e
escape_takes (c ∷ d ∷ ds) v e = numbered_takes c (d ∷ ds) v e

behind_letter : (c n : ℕ) (ds : List ℕ) (v : ℕ) → length ds ≡ suc n → numbered_of c ds ≡ Some v → escape_of (c ∷ ds) ≡ Some v
behind_letter c n [] v l e = absurd (omega arith)
behind_letter c n (d ∷ ds) v l e = e

octal_letters : (c : ℕ) → digit_in 8 c ≡ true → (eqb c 120 ≡ false) × (eqb c 117 ≡ false) × (eqb c 85 ≡ false)
octal_letters c h = (grind (arith, nat_tests), grind (arith, nat_tests), grind (arith, nat_tests))

octal_again : (ds : List ℕ) → AreDigitsOf 8 3 ds → place_sum 8 ds < 256 → escape_of ds ≡ Some (place_sum 8 ds)
octal_again [] h l = absurd (omega (arith, h.1))
octal_again (c ∷ []) h l = absurd (omega (arith, h.1))
octal_again (c ∷ d ∷ ds) h l =
    let n = octal_letters c h.0.0 in
    if_no (eqb c 120) _ _ n.0 ∙ if_no (eqb c 117) _ _ n.1 ∙ if_no (eqb c 85) _ _ n.2
    ∙ byte_again (fixed_of 8 3 (c ∷ d ∷ ds)) (place_sum 8 (c ∷ d ∷ ds)) (fixed_again 8 3 (c ∷ d ∷ ds) h) l

two_digits : (ds : List ℕ) → AreDigitsOf 16 2 ds → place_sum 16 ds < 256
two_digits ds h =
    let s : place_sum 16 ds < 16 ^ length ds = small 16 (omega arith) ds h.0 in
    let p : 16 ^ length ds ≡ 256 = ap (λ n. 16 ^ n) h.1 in
    omega (arith, s, p)

escape_again : (cs : List ℕ) (v : ℕ) → IsRuneEscape cs v → escape_of cs ≡ Some v
escape_again cs v alert = refl
escape_again cs v backspace = refl
escape_again cs v form_feed = refl
escape_again cs v new_line = refl
escape_again cs v carriage_return = refl
escape_again cs v horizontal_tab = refl
escape_again cs v vertical_tab = refl
escape_again cs v a_backslash = refl
escape_again cs v quote = refl
escape_again cs v (octal ds h l) = octal_again ds h l
escape_again cs v (hexadecimal ds h) = behind_letter 120 1 ds (place_sum 16 ds) h.1 (byte_again (fixed_of 16 2 ds) (place_sum 16 ds) (fixed_again 16 2 ds h) (two_digits ds h))
escape_again cs v (short_code_point ds h l) = behind_letter 117 3 ds (place_sum 16 ds) h.1 (code_point_again (fixed_of 16 4 ds) (place_sum 16 ds) (fixed_again 16 4 ds h) l)
escape_again cs v (long_code_point ds h l) = behind_letter 85 7 ds (place_sum 16 ds) h.1 (code_point_again (fixed_of 16 8 ds) (place_sum 16 ds) (fixed_again 16 8 ds h) l)

-- one character
one_takes : (cs : List ℕ) (c : ℕ) → one_of cs ≡ Some c → cs ≡ c ∷ []
one_takes [] c e = cc
one_takes (d ∷ []) c e = let h : d ≡ c = (cc) in ap (λ x. x ∷ []) h
one_takes (d ∷ f ∷ cs) c e = cc

neither : (a b c : Bool) → (a || (b || c)) ≡ false → (a ≡ false) × (b ≡ false) × (c ≡ false)
neither true b c e = cc
neither false true c e = cc
neither false false c e = (refl, refl, e)

record Plain (v : ℕ) : Type 0 where
  single : v ≢ single_quote
  line : v ≢ line_feed
  back : v ≢ backslash

plain_takes : (o : Option ℕ) (v : ℕ) → plain_of_one o ≡ Some v → (o ≡ Some v) × Plain v
plain_takes (Some c) v e = ⊎_elim
    (λ h. cc (h.1))
    (λ h.
    let n = neither (eqb c single_quote) (eqb c line_feed) (eqb c backslash) h.0 in
    let k : c ≡ v = cc (h.1) in
    (ap Some k, subst Plain k (record { single = differs c single_quote n.0; line = differs c line_feed n.1; back = differs c backslash n.2 })))
    (chosen (c == single_quote || (c == line_feed || c == backslash)) _ _ _ e)
plain_takes None v e = cc

plain_again : (v : ℕ) → Plain v → plain_of_one (Some v) ≡ Some v
plain_again v p =
    if_no (v == single_quote || (v == line_feed || v == backslash)) _ _
    (ap (λ t. t || (v == line_feed || v == backslash)) (apart v single_quote p.single) ∙ ap (λ t. t || v == backslash) (apart v line_feed p.line) ∙ apart v backslash p.back)

pub alone : (c : ℕ) → encode_utf8_all (c ∷ []) ≡ encode_utf8 c
alone c = append-nil (encode_utf8 c)

character_takes : (inside : List ℕ) (v : ℕ) → character_of inside ≡ Some v → IsRuneInside inside v
character_takes inside v e = ⊎_elim
    (λ h.
    let u : IsUtf8 inside = IsUtf8-from_is_utf8 inside h.0 in
    let p = plain_takes (one_of (chars inside)) v h.1 in
    let one : chars inside ≡ v ∷ [] = one_takes (chars inside) v p.0 in
    let bytes : inside ≡ encode_utf8 v = sym (encodes-chars inside u) ∙ ap encode_utf8_all one ∙ alone v in
    subst (λ l. IsRuneInside l v) (sym bytes) (character v (subst (λ l. all_scalars l ≡ true) one (scalars-chars inside u)) p.1.single p.1.line p.1.back))
    (λ h. cc (h.1))
    (chosen (is_utf8 inside) (plain_of_one (one_of (chars inside))) None (Some v) e)

character_again : (c : ℕ) → all_scalars (c ∷ []) ≡ true → Plain c → character_of (encode_utf8 c) ≡ Some c
character_again c s p =
    let u : IsUtf8 (encode_utf8 c) = (c ∷ [], (s, alone c)) in
    let one : chars (encode_utf8 c) ≡ c ∷ [] = ap chars (sym (alone c)) ∙ chars-encodes (c ∷ []) s in
    if_yes (is_utf8 (encode_utf8 c)) _ None (is_utf8-from_IsUtf8 (encode_utf8 c) u) ∙ ap (λ l. plain_of_one (one_of l)) one ∙ plain_again c p

-- what stands between the quotes
inside_takes : (inside : List ℕ) (v : ℕ) → inside_of inside ≡ Some v → IsRuneInside inside v
inside_takes [] v e = character_takes [] v e
inside_takes (b ∷ bs) v e = ⊎_elim
    (λ h. subst (λ x. IsRuneInside (x ∷ bs) v) (sym (is b backslash h.0)) (escaped bs v (escape_takes bs v h.1)))
    (λ h. character_takes (b ∷ bs) v h.1)
    (chosen (eqb b backslash) _ _ _ e)

no_backslash : (c b : ℕ) (bs : List ℕ) → c ≢ backslash → encode_utf8 c ≡ b ∷ bs → b ≢ backslash
no_backslash c b bs n e s =
    let one : encode_utf8 backslash ≡ backslash ∷ [] = encode_ascii backslash (omega arith) in
    let all : encode_utf8_all (c ∷ []) ≡ encode_utf8 backslash ++ bs = alone c ∙ e ∙ ap (λ x. x ∷ bs) s ∙ ap (λ l. l ++ bs) (sym one) in
    let k = cons_from_encodes (c ∷ []) bs backslash all in
    n (let h : c ≡ backslash = cc (k.1) in h)

inside_by : (c : ℕ) (inside : List ℕ) → encode_utf8 c ≡ inside → c ≢ backslash → character_of inside ≡ Some c → inside_of inside ≡ Some c
inside_by c [] e n h = h
inside_by c (b ∷ bs) e n h = if_no (eqb b backslash) _ _ (apart b backslash (no_backslash c b bs n e)) ∙ h

inside_again : (inside : List ℕ) (v : ℕ) → IsRuneInside inside v → inside_of inside ≡ Some v
inside_again inside v (character c s q f b) = inside_by c (encode_utf8 c) refl b (character_again c s (record { single = q; line = f; back = b }))
inside_again inside v (escaped escape w h) = escape_again escape w h

-- the quotes
pub before_again : (front : List ℕ) (c : ℕ) → before_quote (front ++ (c ∷ [])) ≡ cond (eqb c single_quote) (Some front) None
before_again [] c = refl
before_again (d ∷ []) c = ap (option_map (λ l. d ∷ l)) (before_again [] c) ∙ mapped (eqb c single_quote) d []
  where
    mapped : (t : Bool) (d : ℕ) (l : List ℕ) → option_map (λ x. d ∷ x) (cond t (Some l) None) ≡ cond t (Some (d ∷ l)) None
    mapped true d l = refl
    mapped false d l = refl
before_again (d ∷ f ∷ front) c = ap (option_map (λ l. d ∷ l)) (before_again (f ∷ front) c) ∙ mapped (eqb c single_quote) d (f ∷ front)
  where
    mapped : (t : Bool) (d : ℕ) (l : List ℕ) → option_map (λ x. d ∷ x) (cond t (Some l) None) ≡ cond t (Some (d ∷ l)) None
    mapped true d l = refl
    mapped false d l = refl

before_by : (c : ℕ) (cs l : List ℕ) (o : Option (List ℕ)) → ((m : List ℕ) → o ≡ Some m → cs ≡ m ++ (single_quote ∷ [])) → option_map (λ x. c ∷ x) o ≡ Some l → c ∷ cs ≡ l ++ (single_quote ∷ [])
before_by c cs l (Some m) f e = let k : c ∷ m ≡ l = (cc) in ap (λ x. c ∷ x) (f m refl) ∙ ap (λ x. x ++ (single_quote ∷ [])) k
before_by c cs l None f e = cc

before_takes : (cs l : List ℕ) → before_quote cs ≡ Some l → cs ≡ l ++ (single_quote ∷ [])
before_takes [] l e = cc
before_takes (c ∷ []) l e = ⊎_elim
    (λ h. let k : [] ≡ l = cc (h.1) in ap (λ x. x ∷ []) (is c single_quote h.0) ∙ ap (λ x. x ++ (single_quote ∷ [])) k)
    (λ h. cc (h.1))
    (chosen (eqb c single_quote) (Some []) None (Some l) e)
before_takes (c ∷ d ∷ cs) l e = before_by c (d ∷ cs) l (before_quote (d ∷ cs)) (before_takes (d ∷ cs)) e

rune_by : (cs : List ℕ) (v : ℕ) (o : Option (List ℕ)) → before_quote cs ≡ o → option_and_then inside_of o ≡ Some v → HasRune (single_quote ∷ cs) v
rune_by cs v (Some l) e h = subst (λ x. HasRune (single_quote ∷ x) v) (sym (before_takes cs l e)) (quoted l v (inside_takes l v h))
rune_by cs v None e h = cc

pub rune_takes : (cs : List ℕ) (v : ℕ) → rune_of cs ≡ Some v → HasRune cs v
unfolding rune_of
rune_takes [] v e = cc
rune_takes (c ∷ cs) v e = ⊎_elim
    (λ h. subst (λ x. HasRune (x ∷ cs) v) (sym (is c single_quote h.0)) (rune_by cs v (before_quote cs) refl h.1))
    (λ h. cc (h.1))
    (chosen (eqb c single_quote) (option_and_then inside_of (before_quote cs)) None (Some v) e)

pub rune_again : (cs : List ℕ) (v : ℕ) → HasRune cs v → rune_of cs ≡ Some v
unfolding rune_of
rune_again cs v (quoted inside w h) = ap (option_and_then inside_of) (before_again inside single_quote) ∙ inside_again inside w h

pub one_value : (cs : List ℕ) (v w : ℕ) → HasRune cs v → HasRune cs w → v ≡ w
one_value cs v w h k = let e : Some v ≡ Some w = sym (rune_again cs v h) ∙ rune_again cs w k in cc

pub no_value : (cs : List ℕ) → rune_of cs ≡ None → (v : ℕ) → HasRune cs v → ⊥
no_value cs e v h = let k : Some v ≡ None = sym (rune_again cs v h) ∙ e in cc

-- a text of one character
pub one_then : (first : ℕ) (text rest : List ℕ) → chars text ≡ first ∷ chars rest → length rest ≡ 0 → Some first ≡ one_of (chars text)
one_then first text rest e l = none_by (chars rest) (chars_none rest l) ∙ ap one_of (sym e)
  where
    none_by : (cs : List ℕ) → length cs ≡ 0 → Some first ≡ one_of (first ∷ cs)
    none_by [] h = refl
    none_by (c ∷ cs) h = absurd (omega arith)

pub one_else : (first : ℕ) (text rest : List ℕ) → chars text ≡ first ∷ chars rest → IsUtf8 rest → 0 < length rest → None ≡ one_of (chars text)
one_else first text rest e u l = some_by (chars rest) (chars_some rest u l) ∙ ap one_of (sym e)
  where
    some_by : (cs : List ℕ) → 0 < length cs → None ≡ one_of (first ∷ cs)
    some_by [] h = absurd (omega arith)
    some_by (c ∷ cs) h = refl

pub is_text : (inside text : List ℕ) (o : Option ℕ) → text ≡ inside → IsUtf8 inside → o ≡ plain_of_one (one_of (chars text)) → o ≡ character_of inside
is_text inside text o e u h = h ∙ ap (λ l. plain_of_one (one_of (chars l))) e ∙ sym (if_yes (is_utf8 inside) _ None (is_utf8-from_IsUtf8 inside u))

pub no_text : (inside : List ℕ) → (IsUtf8 inside → ⊥) → None ≡ character_of inside
no_text inside n = by_test (is_utf8 inside) refl
  where
    by_test : (b : Bool) → is_utf8 inside ≡ b → None ≡ cond b (plain_of_one (one_of (chars inside))) None
    by_test true h = absurd (n (IsUtf8-from_is_utf8 inside h))
    by_test false h = refl

pub quote_then : (text front : List ℕ) (last : ℕ) → text ≡ front ++ (last ∷ []) → last ≡ single_quote → Some front ≡ before_quote text
quote_then text front last e q = sym (ap before_quote e ∙ before_again front last ∙ ap (λ c. cond (eqb c single_quote) (Some front) None) q)

pub quote_else : (text front : List ℕ) (last : ℕ) → text ≡ front ++ (last ∷ []) → last ≢ single_quote → None ≡ before_quote text
quote_else text front last e n = sym (ap before_quote e ∙ before_again front last ∙ if_no (eqb last single_quote) _ _ (apart last single_quote n))

pub is_found : (cs : List ℕ) (r : Option ℕ) → r ≡ rune_of cs → IfSome r (λ v. HasRune cs v)
is_found cs (Some v) e = rune_takes cs v (sym e)
is_found cs None e = tt

pub is_none : (cs : List ℕ) (r : Option ℕ) → r ≡ rune_of cs → IfNone r ((v : ℕ) → HasRune cs v → ⊥)
is_none cs (Some v) e = tt
is_none cs None e = no_value cs (sym e)
