-- The value of an integer literal is read, in both directions.
use Rattle.std.proofs.Common.{◌≡◌, ◌≤◌, ◌<◌, ◌+◌, ◌*◌, ◌^◌, ℕ, Bool, true, false, cond, ◌||◌, ◌==◌, List, [], ◌∷◌, ◌++◌, length, Option, Some, None, Ok, Err, sym, ap, ◌∙◌, refl, subst, ⊎_elim, arith, eqb, ltb, nat_lt}
use borrow.Author.Tests.{true-eqb}
use Rattle.std.proofs.lemmas.Bool.{lt-ltb}
use Rattle.std.proofs.lemmas.Bool.Decides.{nat_tests}
use Rattle.std.proofs.lemmas.Str.{encode_ascii}
use Rattle.std.specs.Char.{digit_value}
use Rattle.std.specs.Str.{encode_utf8_all}
use Rattle.std.specs.Char.{encode_utf8}
use Rattle.go_lexer.specs.Characters.{underscore, digit_zero, Each}
use Rattle.go_lexer.specs.NumberGrammar.{IsDigits, IsLedDigits, IsLetter, IsInteger, IsNumber, integer, float, imaginary_digits, imaginary_integer, imaginary_float}
use Rattle.go_lexer.specs.NumberGrammar as grammar
use Rattle.go_lexer.specs.Numbers.{is_digits, is_led_digits, leads_with_zero}
use Rattle.go_lexer.specs.TokenTexts.{Spells, identifier, keyword, number, rune, string, raw_string, mark, inserted, IsTokenOf, bytes_at}
use Rattle.go_lexer.specs.declared.token_kinds.Token.{Token}
use Rattle.go_lexer.specs.declared.token_kinds.TokenKind.{TokenKind}
use Rattle.go_lexer.specs.declared.token_kinds.TokenKind.TheVariants.{Whole}
use Rattle.go_lexer.proofs.Choices.{chosen}
use Rattle.go_lexer.proofs.DigitGrammar.{digits_takes, digits_again, led_takes, led_again}
use Rattle.go_lexer.proofs.NumberAgain.{each_digit, each_led}
use Rattle.go_lexer.proofs.NumberTaken.{either}
use Rattle.number_literals.specs.PlaceValues.{plain_digits, value_of}
use Rattle.number_literals.specs.Reading.{below, run, kept, answer, if_valid, plain_of, led_of, prefix_radix, by_radix, zero_of, whole_of}
use Rattle.number_literals.specs.Wholes.{HasWhole, decimal, zero_or_octal, binary, octal, hexadecimal, IsWholeFault}
use Rattle.number_literals.specs.declared.faults.ValueFault.{ValueFault}
use Rattle.number_literals.specs.declared.faults.ValueFault.TheVariants.{NotALiteral, Wide}
use Rattle.number_literals.proofs.Sums.{in_run, run_value}

-- digits are read
or_right : (a b : Bool) → b ≡ true → (a || b) ≡ true
or_right true b h = refl
or_right false b h = h

or_left : (a b : Bool) → a ≡ true → (a || b) ≡ true
or_left true b h = refl
or_left false b h = cc

digit_passes : (base c : ℕ) → digit_value c < base → in_run base c ≡ true
digit_passes base c h = or_left (ltb (digit_value c) base) (c == underscore) (lt-ltb (digit_value c) base h)

mark_passes : (base : ℕ) → in_run base underscore ≡ true
mark_passes base = or_right (ltb (digit_value underscore) base) (underscore == underscore) refl

sum_read : (base : ℕ) (cs : List ℕ) → 1 ≤ base → Each (in_run base) cs → run base cs 0 ≡ below (value_of base cs)
sum_read base cs some h =
    run_value base some cs 0 h (omega arith)
    ∙ ap below (let e : 0 * base ^ length (plain_digits cs) + value_of base cs ≡ value_of base cs = omega arith in e)

pub plain_reads : (base : ℕ) (cs : List ℕ) → 2 ≤ base → is_digits base cs ≡ true → kept (run base cs 0) ≡ answer (plain_of base cs)
plain_reads base cs some e =
    ap kept (sum_read base cs (omega arith) (each_digit base (in_run base) (digit_passes base) (mark_passes base) cs (digits_takes base cs e)))
    ∙ sym (ap (λ t. answer (if_valid t (value_of base cs))) e)

pub led_reads : (base : ℕ) (cs : List ℕ) → 2 ≤ base → is_led_digits base cs ≡ true → kept (run base cs 0) ≡ answer (led_of base cs)
led_reads base cs some e =
    ap kept (sum_read base cs (omega arith) (each_led base (in_run base) (digit_passes base) (mark_passes base) cs (led_takes base cs e)))
    ∙ sym (ap (λ t. answer (if_valid t (value_of base cs))) e)

pub not_read : (t : Bool) (n : ℕ) → t ≡ false → Err NotALiteral ≡ answer (if_valid t n)
not_read t n e = sym (ap (λ b. answer (if_valid b n)) e)

-- what is read is the value
is : (c d : ℕ) → eqb c d ≡ true → c ≡ d
is c d e = true-eqb c d (sym e)

valid : (b : Bool) (n m : ℕ) → if_valid b n ≡ Some m → (b ≡ true) × (n ≡ m)
valid true n m e = (refl, (let h : n ≡ m = (cc) in h))
valid false n m e = cc

plain_takes : (cs : List ℕ) (n : ℕ) → leads_with_zero cs ≡ true → plain_of 8 cs ≡ Some n → HasWhole cs n
plain_takes cs n z e = let h = valid (is_digits 8 cs) (value_of 8 cs) n e in subst (HasWhole cs) h.1 (zero_or_octal cs z (digits_takes 8 cs h.0))

led_takes_by : (base : ℕ) (cs digits : List ℕ) (n : ℕ) → (IsLedDigits base digits → HasWhole cs (value_of base digits)) → led_of base digits ≡ Some n → HasWhole cs n
led_takes_by base cs digits n f e = let h = valid (is_led_digits base digits) (value_of base digits) n e in subst (HasWhole cs) h.1 (f (led_takes base digits h.0))

radix_takes : (c : ℕ) (digits : List ℕ) (base n : ℕ) → prefix_radix c ≡ Some base → led_of base digits ≡ Some n → HasWhole (digit_zero ∷ c ∷ digits) n
radix_takes c digits base n e r = ⊎_elim
    (λ h. let k : base ≡ 16 = cc (h.1) in led_takes_by 16 (digit_zero ∷ c ∷ digits) digits n (hexadecimal c digits (either c 120 88 h.0)) (ap (λ b. led_of b digits) (sym k) ∙ r))
    (λ h. ⊎_elim
    (λ x. let k : base ≡ 8 = cc (x.1) in led_takes_by 8 (digit_zero ∷ c ∷ digits) digits n (octal c digits (either c 111 79 x.0)) (ap (λ b. led_of b digits) (sym k) ∙ r))
    (λ x. ⊎_elim
    (λ y. let k : base ≡ 2 = cc (y.1) in led_takes_by 2 (digit_zero ∷ c ∷ digits) digits n (binary c digits (either c 98 66 y.0)) (ap (λ b. led_of b digits) (sym k) ∙ r))
    (λ y. cc (y.1))
    (chosen (c == 98 || c == 66) _ _ _ x.1))
    (chosen (c == 111 || c == 79) _ _ _ h.1))
    (chosen (c == 120 || c == 88) _ _ _ e)

by_radix_takes : (z c : ℕ) (digits : List ℕ) (o : Option ℕ) (n : ℕ) → (z == digit_zero) ≡ true → prefix_radix c ≡ o → by_radix (z ∷ c ∷ digits) digits o ≡ Some n → HasWhole (z ∷ c ∷ digits) n
by_radix_takes z c digits (Some base) n l e r = subst (λ x. HasWhole (x ∷ c ∷ digits) n) (sym (is z digit_zero l)) (radix_takes c digits base n e r)
by_radix_takes z c digits None n l e r = plain_takes (z ∷ c ∷ digits) n l r

zero_takes : (cs : List ℕ) (n : ℕ) → leads_with_zero cs ≡ true → zero_of cs ≡ Some n → HasWhole cs n
zero_takes [] n l e = plain_takes [] n l e
zero_takes (z ∷ []) n l e = plain_takes (z ∷ []) n l e
zero_takes (z ∷ c ∷ digits) n l e = by_radix_takes z c digits (prefix_radix c) n l refl e

takes_by : (cs : List ℕ) (n : ℕ) (t : Bool) → leads_with_zero cs ≡ t → cond t (zero_of cs) (plain_of 10 cs) ≡ Some n → HasWhole cs n
takes_by cs n true l e = zero_takes cs n l e
takes_by cs n false l e = let h = valid (is_digits 10 cs) (value_of 10 cs) n e in subst (HasWhole cs) h.1 (decimal cs l (digits_takes 10 cs h.0))

whole_takes : (cs : List ℕ) (n : ℕ) → whole_of cs ≡ Some n → HasWhole cs n
unfolding whole_of
whole_takes cs n e = takes_by cs n (leads_with_zero cs) refl e

-- and the value is read
plain_again : (base : ℕ) (cs : List ℕ) → base ≤ 16 → IsDigits base cs → plain_of base cs ≡ Some (value_of base cs)
plain_again base cs most h = ap (λ t. if_valid t (value_of base cs)) (digits_again base (omega arith) cs h)

led_of_again : (base : ℕ) (cs : List ℕ) → base ≤ 16 → IsLedDigits base cs → led_of base cs ≡ Some (value_of base cs)
led_of_again base cs most h = ap (λ t. if_valid t (value_of base cs)) (led_again base (omega arith) cs h)

digit_no_radix : (c : ℕ) → digit_value c < 8 → prefix_radix c ≡ None
digit_no_radix c h = grind (arith, nat_tests)

mark_no_radix : (c : ℕ) → c ≡ underscore → prefix_radix c ≡ None
mark_no_radix c e = ap prefix_radix e

second_digit : (c d : ℕ) (ds : List ℕ) → IsDigits 8 (c ∷ d ∷ ds) → prefix_radix d ≡ None
second_digit c d [] h = ⊎_elim (λ k. digit_no_radix d k) (λ k. mark_no_radix d k.0) h.1
second_digit c d (e ∷ ds) h = ⊎_elim (λ k. digit_no_radix d k.0) (λ k. mark_no_radix d k.0) h.1

octal_again : (cs : List ℕ) → IsDigits 8 cs → zero_of cs ≡ Some (value_of 8 cs)
octal_again [] h = absurd h
octal_again (c ∷ []) h = plain_again 8 (c ∷ []) (omega arith) h
octal_again (c ∷ d ∷ ds) h = ap (by_radix (c ∷ d ∷ ds) ds) (second_digit c d ds h) ∙ plain_again 8 (c ∷ d ∷ ds) (omega arith) h

letter_at : (c small large : ℕ) (P : ℕ → Type 0) → P small → P large → IsLetter small large c → P c
letter_at c small large P s l h = ⊎_elim (λ e. subst P (sym e) s) (λ e. subst P (sym e) l) h

prefixed_again : (base small large letter : ℕ) (digits : List ℕ) → base ≤ 16 → IsLetter small large letter → prefix_radix small ≡ Some base → prefix_radix large ≡ Some base → IsLedDigits base digits
    → zero_of (digit_zero ∷ letter ∷ digits) ≡ Some (value_of base digits)
prefixed_again base small large letter digits most l s b h =
    ap (by_radix (digit_zero ∷ letter ∷ digits) digits) (letter_at letter small large (λ c. prefix_radix c ≡ Some base) s b l) ∙ led_of_again base digits most h

whole_again : (cs : List ℕ) (n : ℕ) → HasWhole cs n → whole_of cs ≡ Some n
unfolding whole_of
whole_again cs n (decimal digits z d) = ap (λ t. cond t (zero_of digits) (plain_of 10 digits)) z ∙ plain_again 10 digits (omega arith) d
whole_again cs n (zero_or_octal digits z d) = ap (λ t. cond t (zero_of digits) (plain_of 10 digits)) z ∙ octal_again digits d
whole_again cs n (binary letter digits l d) = prefixed_again 2 98 66 letter digits (omega arith) l refl refl d
whole_again cs n (octal letter digits l d) = prefixed_again 8 111 79 letter digits (omega arith) l refl refl d
whole_again cs n (hexadecimal letter digits l d) = prefixed_again 16 120 88 letter digits (omega arith) l refl refl d

pub one_value : (cs : List ℕ) (n m : ℕ) → HasWhole cs n → HasWhole cs m → n ≡ m
one_value cs n m h k = let e : Some n ≡ Some m = sym (whole_again cs n h) ∙ whole_again cs m k in cc

-- what the code answers
some_answer : (n v : ℕ) (t : Bool) → nat_lt n (2 ^ 127) ≡ t → kept (cond t (Some n) None) ≡ Ok v → (n ≡ v) × (n < 2 ^ 127)
some_answer n v true l e = ((let h : n ≡ v = (cc) in h), (grind (arith, nat_tests)))
some_answer n v false l e = cc

found_by : (cs : List ℕ) (v : ℕ) (o : Option ℕ) → whole_of cs ≡ o → answer o ≡ Ok v → HasWhole cs v × (v < 2 ^ 127)
found_by cs v (Some n) w e =
    let h = some_answer n v (nat_lt n (2 ^ 127)) refl e in
    (subst (HasWhole cs) h.0 (whole_takes cs n w), subst (λ m. m < 2 ^ 127) h.0 h.1)
found_by cs v None w e = cc

pub is_found : (cs : List ℕ) (v : ℕ) → Ok v ≡ answer (whole_of cs) → HasWhole cs v × (v < 2 ^ 127)
is_found cs v e = found_by cs v (whole_of cs) refl (sym e)

wide_answer : (n : ℕ) (f : ValueFault) (t : Bool) → nat_lt n (2 ^ 127) ≡ t → kept (cond t (Some n) None) ≡ Err f → (f ≡ Wide) × (2 ^ 127 ≤ n)
wide_answer n f true l e = cc
wide_answer n f false l e = ((let h : f ≡ Wide = (cc) in h), (grind (arith, nat_tests)))

fault_by : (cs : List ℕ) (f : ValueFault) (o : Option ℕ) → whole_of cs ≡ o → answer o ≡ Err f → IsWholeFault cs f
fault_by cs f (Some n) w e =
    let h = wide_answer n f (nat_lt n (2 ^ 127)) refl e in
    subst (IsWholeFault cs) (sym h.0) (n, whole_takes cs n w, h.1)
fault_by cs f None w e =
    let h : NotALiteral ≡ f = (cc) in
    subst (IsWholeFault cs) h (λ n k. let s : Some n ≡ None = sym (whole_again cs n k) ∙ w in cc)

pub is_fault : (cs : List ℕ) (f : ValueFault) → Err f ≡ answer (whole_of cs) → IsWholeFault cs f
is_fault cs f e = fault_by cs f (whole_of cs) refl (sym e)

-- tokens
abbrev pub low : ℕ → Bool
low c = nat_lt c 128

pub digit_low : (base c : ℕ) → base ≤ 16 → digit_value c < base → low c ≡ true
digit_low base c most h = sixteen c (omega arith)
  where
    sixteen : (c : ℕ) → digit_value c < 16 → low c ≡ true
    sixteen c h = grind (arith, nat_tests)

low_digits : (base : ℕ) (cs : List ℕ) → base ≤ 16 → IsDigits base cs → Each low cs
low_digits base cs most h = each_digit base low (λ c k. digit_low base c most k) refl cs h

low_led : (base : ℕ) (cs : List ℕ) → base ≤ 16 → IsLedDigits base cs → Each low cs
low_led base cs most h = each_led base low (λ c k. digit_low base c most k) refl cs h

low_letter : (c small large : ℕ) → low small ≡ true → low large ≡ true → IsLetter small large c → low c ≡ true
low_letter c small large s l h = letter_at c small large (λ x. low x ≡ true) s l h

pub ascii : (cs : List ℕ) → Each low cs → encode_utf8_all cs ≡ cs
ascii [] h = refl
ascii (c ∷ cs) h =
    let small : c < 128 = grind (arith, nat_tests) in
    let one : encode_utf8 c ≡ c ∷ [] = encode_ascii c small in
    ap (λ l. l ++ encode_utf8_all cs) one ∙ ap (λ l. c ∷ l) (ascii cs h.1)

record Valued (cs : List ℕ) : Type 0 where
  value : ℕ
  has : HasWhole cs value
  lows : Each low cs

integer_valued : (cs : List ℕ) → IsInteger cs → Valued cs
integer_valued cs (grammar.decimal digits z d) = record { value = value_of 10 digits; has = decimal digits z d; lows = low_digits 10 digits (omega arith) d }
integer_valued cs (grammar.zero_or_octal digits z d) = record { value = value_of 8 digits; has = zero_or_octal digits z d; lows = low_digits 8 digits (omega arith) d }
integer_valued cs (grammar.binary letter digits l d) = record { value = value_of 2 digits; has = binary letter digits l d; lows = (refl, (low_letter letter 98 66 refl refl l, low_led 2 digits (omega arith) d)) }
integer_valued cs (grammar.octal letter digits l d) = record { value = value_of 8 digits; has = octal letter digits l d; lows = (refl, (low_letter letter 111 79 refl refl l, low_led 8 digits (omega arith) d)) }
integer_valued cs (grammar.hexadecimal letter digits l d) = record { value = value_of 16 digits; has = hexadecimal letter digits l d; lows = (refl, (low_letter letter 120 88 refl refl l, low_led 16 digits (omega arith) d)) }

number_valued : (kind : TokenKind) (text : List ℕ) → IsNumber kind text → kind ≡ Whole → Valued text
number_valued kind text (integer t h) e = integer_valued t h
number_valued kind text (float t h) e = cc
number_valued kind text (imaginary_digits t h) e = cc
number_valued kind text (imaginary_integer t h) e = cc
number_valued kind text (imaginary_float t h) e = cc

spelled_valued : (kind : TokenKind) (text : List ℕ) → Spells kind text → kind ≡ Whole → Valued text
spelled_valued kind text (identifier name h k) e = cc
spelled_valued kind text (keyword k) e = cc
spelled_valued kind text (number d literal h) e = number_valued d literal h e
spelled_valued kind text (rune inside h) e = cc
spelled_valued kind text (string inside h) e = cc
spelled_valued kind text (raw_string inside h) e = cc
spelled_valued kind text (mark t h) e = cc
spelled_valued kind text inserted e = cc

pub token_valued : (source : List ℕ) (t : Token) → IsTokenOf source t → t.kind ≡ Whole → (n : ℕ) × HasWhole (bytes_at source t) n
token_valued source t h e =
    let v : Valued h.characters = spelled_valued t.kind h.characters h.spells e in
    (v.value, subst (λ l. HasWhole l v.value) (sym (ascii h.characters v.lows) ∙ h.utf8) v.has)
