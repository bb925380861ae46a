-- Each number of the grammar is read.
use Rattle.std.proofs.Common.{ℕ, ◌≡◌, ◌≤◌, ◌<◌, Bool, true, false, cond, not, ◌&&◌, ◌||◌, ◌==◌, List, [], ◌∷◌, ◌++◌, Option, Some, None, sym, ap, ◌∙◌, refl, subst, ◌⊎◌, inl, inr, ⊎_elim, arith, eqb, nat_lt, append_assoc}
use Rattle.std.proofs.lemmas.Bool.Decides.{nat_tests}
use Rattle.std.specs.Prelude.{is_none}
use Rattle.std.specs.Char.{digit_value}
use Rattle.go_lexer.specs.declared.token_kinds.TokenKind.{TokenKind}
use Rattle.go_lexer.specs.declared.token_kinds.TokenKind.TheVariants.{Floating, Imaginary}
use Rattle.go_lexer.specs.declared.classes.Class.TheVariants.{Digits, Hexadecimal as HexadecimalDigits}
use Rattle.go_lexer.specs.declared.numbers.Base.{Base}
use Rattle.go_lexer.specs.declared.numbers.Base.TheVariants.{Decimal, Binary, Octal, Hexadecimal}
use Rattle.go_lexer.specs.Characters.{plus, minus, point, digit_zero, letter_i, underscore, split, strip, front_while, after_while}
use Rattle.go_lexer.specs.Classes.{in_class}
use Rattle.go_lexer.specs.Grammar.{Each, Ends}
use Rattle.go_lexer.specs.NumberGrammar.{IsDigits, IsDigitsOrNone, IsLedDigits, IsLetter, IsInteger, decimal, zero_or_octal, binary, octal, hexadecimal, IsSign, no_sign, a_plus, a_minus, IsExponent, exponent as scale_of, IsExponentOrNone, IsFloat, whole_and_point, whole_and_exponent, fraction_alone, hexadecimal_and_point, hexadecimal_and_exponent, hexadecimal_fraction, IsNumber, integer, float, imaginary_digits, imaginary_integer, imaginary_float}
use Rattle.go_lexer.specs.Numbers.{prefix_base, based, prefixed, after_zero, base_of, run, Mantissa, fraction_after, mantissa_in, mantissa, Exponent, is_decimal_letter, is_binary_letter, is_exponent_letter, after_sign, exponent, is_digits, is_digits_or_none, leads_with_zero, is_whole, is_decimal_mantissa, is_hexadecimal_mantissa, is_unscaled, is_scaled, number_kind, number_by, number}
use Rattle.go_lexer.specs.Pieces.{token}
use Rattle.go_lexer.proofs.DigitGrammar.{digits_again, led_again, or_none_again}
use Rattle.go_lexer.proofs.NumberTaken.{IsPrefix, no_prefix, binary_prefix, octal_prefix, hexadecimal_prefix, spelled, append_nil}
use Rattle.go_lexer.proofs.Runs.{after_again, front_again}

if_yes : {A : Type 0} (b : Bool) (x y : A) → b ≡ true → cond b x y ≡ x
if_yes b x y h = ap (λ t. cond t x y) h

each_append : (p : ℕ → Bool) (xs ys : List ℕ) → Each p xs → Each p ys → Each p (xs ++ ys)
each_append p [] ys h k = k
each_append p (x ∷ xs) ys h k = (h.0, each_append p xs ys h.1 k)

-- the base
abbrev pub pair : Base → List ℕ → Base × List ℕ
pair base digits = (base, digits)

-- a character that makes no prefix
abbrev plain : ℕ → Bool
plain c = is_none (prefix_base c)

none_of : (o : Option Base) → is_none o ≡ true → o ≡ None
none_of None e = refl
none_of (Some b) e = cc

decimal_by : (text rest : List ℕ) → Each plain rest → prefixed text (split rest) ≡ pair Decimal text
decimal_by text [] h = refl
decimal_by text (c ∷ digits) h = ap (based text digits) (none_of (prefix_base c) h.0)

decimal_base : (text : List ℕ) → Each plain text → base_of text ≡ pair Decimal text
decimal_base [] h = refl
decimal_base (c ∷ cs) h = by_zero (eqb c digit_zero)
  where
    by_zero : (b : Bool) → after_zero (c ∷ cs) (cond b (Some cs) None) ≡ pair Decimal (c ∷ cs)
    by_zero true = decimal_by (c ∷ cs) cs h.1
    by_zero false = refl

-- what a base leaves to its digits
abbrev Plain : Base → List ℕ → Type 0
Plain Decimal digits = Each plain digits
Plain _ digits = Unit {0}

pub letter_base : (base : Base) (small large letter : ℕ) (digits : List ℕ) → IsLetter small large letter → base_of (digit_zero ∷ small ∷ digits) ≡ pair base digits → base_of (digit_zero ∷ large ∷ digits) ≡ pair base digits
    → base_of (digit_zero ∷ letter ∷ digits) ≡ pair base digits
letter_base base small large letter digits l f g = ⊎_elim (λ e. subst (λ c. base_of (digit_zero ∷ c ∷ digits) ≡ pair base digits) (sym e) f) (λ e. subst (λ c. base_of (digit_zero ∷ c ∷ digits) ≡ pair base digits) (sym e) g) l

prefix_again : (base : Base) (front digits : List ℕ) → IsPrefix base front → Plain base digits → base_of (front ++ digits) ≡ pair base digits
prefix_again base front digits no_prefix h = decimal_base digits h
prefix_again base front digits (binary_prefix letter l) h = letter_base Binary 98 66 letter digits l refl refl
prefix_again base front digits (octal_prefix letter l) h = letter_base Octal 111 79 letter digits l refl refl
prefix_again base front digits (hexadecimal_prefix letter l) h = letter_base Hexadecimal 120 88 letter digits l refl refl

-- the mantissa
point_ends : (base : Base) → run base point ≡ false
point_ends Decimal = refl
point_ends Binary = refl
point_ends Octal = refl
point_ends Hexadecimal = refl

abbrev pub parts : Base → List ℕ → Option (List ℕ) → List ℕ → Mantissa
parts base whole fraction rest = record { base = base; whole = whole; fraction = fraction; rest = rest }

abbrev pub EachFraction : Base → Option (List ℕ) → List ℕ → Type 0
EachFraction base None after = strip point after ≡ None
EachFraction base (Some fraction) after = Each (run base) fraction

pub mantissa_again : (base : Base) (whole : List ℕ) (fraction : Option (List ℕ)) (after : List ℕ) → Each (run base) whole → EachFraction base fraction after → Ends (run base) after
    → mantissa_in (pair base (spelled whole fraction ++ after)) ≡ parts base whole fraction after
mantissa_again base whole None after w f e =
    ap (λ l. fraction_after base l (after_while (run base) (whole ++ after)) (strip point (after_while (run base) (whole ++ after)))) (front_again (run base) whole after w e)
    ∙ ap (λ l. fraction_after base whole l (strip point l)) (after_again (run base) whole after w e)
    ∙ ap (fraction_after base whole after) f
mantissa_again base whole (Some fraction) after w f e =
    let more : List ℕ = fraction ++ after in
    ap (λ l. mantissa_in (pair base l)) (append_assoc whole (point ∷ fraction) after)
    ∙ ap (λ l. fraction_after base l (after_while (run base) (whole ++ (point ∷ more))) (strip point (after_while (run base) (whole ++ (point ∷ more))))) (front_again (run base) whole (point ∷ more) w (point_ends base))
    ∙ ap (λ l. fraction_after base whole l (strip point l)) (after_again (run base) whole (point ∷ more) w (point_ends base))
    ∙ ap (λ l. parts base whole (Some l) (after_while (run base) more)) (front_again (run base) fraction after f e)
    ∙ ap (parts base whole (Some fraction)) (after_again (run base) fraction after f e)

-- the exponent
digit_sign : (c : ℕ) → digit_value c < 10 → (c == plus || c == minus) ≡ false
digit_sign c h = grind (arith, nat_tests)

head_sign : (cs tail : List ℕ) → IsDigits 10 cs → after_sign (cs ++ tail) ≡ cs ++ tail
head_sign [] tail h = absurd h
head_sign (c ∷ []) tail h = ap (λ b. cond b tail (c ∷ tail)) (digit_sign c h)
head_sign (c ∷ d ∷ cs) tail h = ap (λ b. cond b (d ∷ (cs ++ tail)) (c ∷ d ∷ (cs ++ tail))) (digit_sign c h.0)

sign_again : (sign digits tail : List ℕ) → IsSign sign → IsDigits 10 digits → after_sign (sign ++ (digits ++ tail)) ≡ digits ++ tail
sign_again sign digits tail no_sign h = head_sign digits tail h
sign_again sign digits tail a_plus h = refl
sign_again sign digits tail a_minus h = refl

ten_runs : (c : ℕ) → digit_value c < 10 → (nat_lt (digit_value c) 10 || c == underscore) ≡ true
ten_runs c h = grind (arith, nat_tests)

sixteen_runs : (c : ℕ) → digit_value c < 16 → (nat_lt (digit_value c) 16 || c == underscore) ≡ true
sixteen_runs c h = grind (arith, nat_tests)

mark_runs : (c : ℕ) (b : Bool) → c ≡ underscore → (b || c == underscore) ≡ true
mark_runs c true e = refl
mark_runs c false e = grind (arith, nat_tests)

-- the digits of a base pass a test that each of them and `_` passes
module _ (radix : ℕ) (p : ℕ → Bool) (digit : (c : ℕ) → digit_value c < radix → p c ≡ true) (mark : p underscore ≡ true) where
  mark_passes : (c : ℕ) → c ≡ underscore → p c ≡ true
  mark_passes c e = ap p e ∙ mark

  each_by : (d : ℕ) (cs : List ℕ) → IsDigits radix (d ∷ cs) ⊎ ((d ≡ underscore) × IsDigits radix cs) → (IsDigits radix (d ∷ cs) → Each p (d ∷ cs)) → (IsDigits radix cs → Each p cs) → Each p (d ∷ cs)
  each_by d cs (inl h) f g = f h
  each_by d cs (inr h) f g = (mark_passes d h.0, g h.1)

  pub each_digit : (cs : List ℕ) → IsDigits radix cs → Each p cs
  each_digit [] h = absurd h
  each_digit (c ∷ []) h = (digit c h, tt)
  each_digit (c ∷ d ∷ cs) h = (digit c h.0, each_by d cs h.1 (each_digit (d ∷ cs)) (each_digit cs))

  pub each_led : (cs : List ℕ) → IsLedDigits radix cs → Each p cs
  each_led [] h = absurd h
  each_led (c ∷ cs) (inl h) = (mark_passes c h.0, each_digit cs h.1)
  each_led (c ∷ cs) (inr h) = each_digit (c ∷ cs) h

  pub each_or_none : (cs : List ℕ) → IsDigitsOrNone radix cs → Each p cs
  each_or_none [] h = tt
  each_or_none (c ∷ cs) h = each_digit (c ∷ cs) h

ten_each : (cs : List ℕ) → IsDigits 10 cs → Each (in_class Digits) cs
ten_each cs h = each_digit 10 (in_class Digits) ten_runs refl cs h

abbrev some_scale : ℕ → List ℕ → List ℕ → Option Exponent
some_scale letter digits rest = Some (record { letter = letter; digits = digits; rest = rest })

exponent_again : (base : Base) (letter : ℕ) (sign digits tail : List ℕ) → is_exponent_letter base letter ≡ true → IsSign sign → IsDigits 10 digits → Ends (in_class Digits) tail
    → exponent base (letter ∷ (sign ++ (digits ++ tail))) ≡ some_scale letter digits tail
exponent_again base letter sign digits tail l s d e =
    if_yes (is_exponent_letter base letter) _ _ l
    ∙ ap (λ cs. some_scale letter (front_while (in_class Digits) cs) (after_while (in_class Digits) cs)) (sign_again sign digits tail s d)
    ∙ ap (λ cs. some_scale letter cs (after_while (in_class Digits) (digits ++ tail))) (front_again (in_class Digits) digits tail (ten_each digits d) e)
    ∙ ap (some_scale letter digits) (after_again (in_class Digits) digits tail (ten_each digits d) e)

-- a number by its parts
pub by_parts : (cs : List ℕ) (m : Mantissa) (x : Option Exponent) → mantissa cs ≡ m → exponent m.base m.rest ≡ x → number cs ≡ number_by cs m x
by_parts cs m x e f = ap (λ k. number_by cs k (exponent k.base k.rest)) e ∙ ap (number_by cs m) f

-- the end of a number: nothing, or `i`
pub data IsTail : Bool → List ℕ → Type 0 where
  real : IsTail false []
  complex : IsTail true (letter_i ∷ [])

abbrev kind_of : Bool → Option (List ℕ) → Bool → TokenKind
kind_of imaginary fraction scaled = cond imaginary Imaginary (number_kind fraction scaled)

piece_of_none : (cs whole : List ℕ) (base : Base) (fraction : Option (List ℕ)) (imaginary : Bool) (tail : List ℕ) → IsTail imaginary tail → is_unscaled imaginary base whole fraction ≡ true
    → number_by cs (parts base whole fraction tail) None ≡ token (kind_of imaginary fraction false) true []
piece_of_none cs whole base fraction imaginary tail real h = if_yes (is_unscaled false base whole fraction) _ _ h
piece_of_none cs whole base fraction imaginary tail complex h = if_yes (is_unscaled true base whole fraction) _ _ h

piece_of_some : (cs whole : List ℕ) (base : Base) (fraction : Option (List ℕ)) (imaginary : Bool) (letter : ℕ) (digits rest tail : List ℕ) → IsTail imaginary tail → is_scaled base whole fraction letter digits ≡ true
    → number_by cs (parts base whole fraction rest) (some_scale letter digits tail) ≡ token (kind_of imaginary fraction true) true []
piece_of_some cs whole base fraction imaginary letter digits rest tail real h = if_yes (is_scaled base whole fraction letter digits) _ _ h
piece_of_some cs whole base fraction imaginary letter digits rest tail complex h = if_yes (is_scaled base whole fraction letter digits) _ _ h

tail_ends : (base : Base) (imaginary : Bool) (tail : List ℕ) → IsTail imaginary tail → Ends (run base) tail
tail_ends base imaginary tail real = tt
tail_ends Decimal imaginary tail complex = refl
tail_ends Binary imaginary tail complex = refl
tail_ends Octal imaginary tail complex = refl
tail_ends Hexadecimal imaginary tail complex = refl

tail_digits : (imaginary : Bool) (tail : List ℕ) → IsTail imaginary tail → Ends (in_class Digits) tail
tail_digits imaginary tail real = tt
tail_digits imaginary tail complex = refl

tail_point : (imaginary : Bool) (tail : List ℕ) → IsTail imaginary tail → strip point tail ≡ None
tail_point imaginary tail real = refl
tail_point imaginary tail complex = refl

tail_scale : (base : Base) (imaginary : Bool) (tail : List ℕ) → IsTail imaginary tail → exponent base tail ≡ None
tail_scale base imaginary tail real = refl
tail_scale Decimal imaginary tail complex = refl
tail_scale Binary imaginary tail complex = refl
tail_scale Octal imaginary tail complex = refl
tail_scale Hexadecimal imaginary tail complex = refl

tail_plain : (imaginary : Bool) (tail : List ℕ) → IsTail imaginary tail → Each plain tail
tail_plain imaginary tail real = tt
tail_plain imaginary tail complex = (refl, tt)

plain_decimal : (c : ℕ) → digit_value c < 10 → plain c ≡ true
plain_decimal c h = grind (arith, nat_tests)

ten_plain : (cs : List ℕ) → IsDigits 10 cs → Each plain cs
ten_plain cs h = each_digit 10 plain plain_decimal refl cs h

ten_plain_or_none : (cs : List ℕ) → IsDigitsOrNone 10 cs → Each plain cs
ten_plain_or_none [] h = tt
ten_plain_or_none (c ∷ cs) h = ten_plain (c ∷ cs) h

-- digits of a base are digits of a wider one
wider_by : (small large : ℕ) → small ≤ large → (d : ℕ) (cs : List ℕ) → IsDigits small (d ∷ cs) ⊎ ((d ≡ underscore) × IsDigits small cs) → (IsDigits small (d ∷ cs) → IsDigits large (d ∷ cs)) → (IsDigits small cs → IsDigits large cs)
    → IsDigits large (d ∷ cs) ⊎ ((d ≡ underscore) × IsDigits large cs)
wider_by small large le d cs (inl h) f g = inl (f h)
wider_by small large le d cs (inr h) f g = inr (h.0, g h.1)

digits_wider : (small large : ℕ) → small ≤ large → (cs : List ℕ) → IsDigits small cs → IsDigits large cs
digits_wider small large le [] h = absurd h
digits_wider small large le (c ∷ []) h = omega arith
digits_wider small large le (c ∷ d ∷ cs) h = (omega (arith, h.0), wider_by small large le d cs h.1 (digits_wider small large le (d ∷ cs)) (digits_wider small large le cs))

module _ (imaginary : Bool) (tail : List ℕ) (t : IsTail imaginary tail) where
  unscaled_again : (base : Base) (front whole : List ℕ) (fraction : Option (List ℕ)) → IsPrefix base front → Plain base (spelled whole fraction ++ tail) → Each (run base) whole → EachFraction base fraction tail
      → is_unscaled imaginary base whole fraction ≡ true → number ((front ++ spelled whole fraction) ++ tail) ≡ token (kind_of imaginary fraction false) true []
  unscaled_again base front whole fraction p q w f h =
      let text : List ℕ = front ++ (spelled whole fraction ++ tail) in
      ap number (append_assoc front (spelled whole fraction) tail)
      ∙ by_parts text (parts base whole fraction tail) None (ap mantissa_in (prefix_again base front (spelled whole fraction ++ tail) p q) ∙ mantissa_again base whole fraction tail w f (tail_ends base imaginary tail t)) (tail_scale base imaginary tail t)
      ∙ piece_of_none text whole base fraction imaginary tail t h

  scaled_again : (base : Base) (front whole : List ℕ) (fraction : Option (List ℕ)) (letter : ℕ) (sign digits : List ℕ) → IsPrefix base front → Plain base (spelled whole fraction ++ (letter ∷ (sign ++ (digits ++ tail)))) → Each (run base) whole
      → EachFraction base fraction (letter ∷ (sign ++ (digits ++ tail))) → run base letter ≡ false → is_exponent_letter base letter ≡ true → IsSign sign → IsDigits 10 digits
      → is_scaled base whole fraction letter digits ≡ true → number ((front ++ (spelled whole fraction ++ (letter ∷ (sign ++ digits)))) ++ tail) ≡ token (kind_of imaginary fraction true) true []
  scaled_again base front whole fraction letter sign digits p q w f r l s d h =
      let after : List ℕ = letter ∷ (sign ++ (digits ++ tail)) in
      let text : List ℕ = front ++ (spelled whole fraction ++ after) in
      ap number (append_assoc front (spelled whole fraction ++ (letter ∷ (sign ++ digits))) tail ∙ ap (λ x. front ++ x) (append_assoc (spelled whole fraction) (letter ∷ (sign ++ digits)) tail ∙ ap (λ x. spelled whole fraction ++ (letter ∷ x)) (append_assoc sign digits tail)))
      ∙ by_parts text (parts base whole fraction after) (some_scale letter digits tail) (ap mantissa_in (prefix_again base front (spelled whole fraction ++ after) p q) ∙ mantissa_again base whole fraction after w f r) (exponent_again base letter sign digits tail l s d (tail_digits imaginary tail t))
      ∙ piece_of_some text whole base fraction imaginary letter digits after tail t h

  abbrev text_plain : List ℕ → Type 0
  text_plain cs = Each plain cs

  with_tail : (cs : List ℕ) → Each plain cs → Each plain (cs ++ tail)
  with_tail cs h = each_append plain cs tail h (tail_plain imaginary tail t)

  -- integers
  whole_again : (base : Base) (front digits : List ℕ) → IsPrefix base front → Plain base (digits ++ tail) → Each (run base) digits → is_whole base imaginary digits ≡ true → number ((front ++ digits) ++ tail) ≡ token (kind_of imaginary None false) true []
  whole_again base front digits p q w h = unscaled_again base front digits None p q w (tail_point imaginary tail t) h

  either_base : (b : Bool) (digits : List ℕ) → IsDigits 8 digits → cond b (is_digits 8 digits) (is_digits 10 digits) ≡ true
  either_base true digits d = digits_again 8 (omega arith) digits d
  either_base false digits d = digits_again 10 (omega arith) digits (digits_wider 8 10 (omega arith) digits d)

  pub integer_again : (text : List ℕ) → IsInteger text → number (text ++ tail) ≡ token (kind_of imaginary None false) true []
  integer_again text (decimal digits z d) =
      whole_again Decimal [] digits no_prefix (with_tail digits (ten_plain digits d)) (ten_each digits d) (ap (λ b. cond (b && not imaginary) (is_digits 8 digits) (is_digits 10 digits)) z ∙ digits_again 10 (omega arith) digits d)
  integer_again text (zero_or_octal digits z d) =
      let e : IsDigits 10 digits = digits_wider 8 10 (omega arith) digits d in
      whole_again Decimal [] digits no_prefix (with_tail digits (ten_plain digits e)) (ten_each digits e) (either_base (leads_with_zero digits && not imaginary) digits d)
  integer_again text (binary letter digits l d) =
      whole_again Binary (digit_zero ∷ letter ∷ []) digits (binary_prefix letter l) tt (each_led 2 (in_class Digits) (λ c h. ten_runs c (omega (arith, h))) refl digits d) (led_again 2 (omega arith) digits d)
  integer_again text (octal letter digits l d) =
      whole_again Octal (digit_zero ∷ letter ∷ []) digits (octal_prefix letter l) tt (each_led 8 (in_class Digits) (λ c h. ten_runs c (omega (arith, h))) refl digits d) (led_again 8 (omega arith) digits d)
  integer_again text (hexadecimal letter digits l d) =
      whole_again Hexadecimal (digit_zero ∷ letter ∷ []) digits (hexadecimal_prefix letter l) tt (each_led 16 (in_class HexadecimalDigits) sixteen_runs refl digits d) (led_again 16 (omega arith) digits d)

  pub digits_read : (text : List ℕ) → imaginary ≡ true → IsDigits 10 text → number (text ++ tail) ≡ token (kind_of imaginary None false) true []
  digits_read text i d =
      whole_again Decimal [] text no_prefix (with_tail text (ten_plain text d)) (ten_each text d)
      (ap (λ b. cond (leads_with_zero text && not b) (is_digits 8 text) (is_digits 10 text)) i ∙ never (leads_with_zero text) ∙ digits_again 10 (omega arith) text d)
    where
      never : (b : Bool) → cond (b && false) (is_digits 8 text) (is_digits 10 text) ≡ is_digits 10 text
      never true = refl
      never false = refl

  -- floating-point literals
  abbrev float_kind : TokenKind
  float_kind = cond imaginary Imaginary Floating

  or_none_each : (cs : List ℕ) → IsDigitsOrNone 10 cs → Each (in_class Digits) cs
  or_none_each [] h = tt
  or_none_each (c ∷ cs) h = ten_each (c ∷ cs) h

  mantissa_true : (digits fraction : List ℕ) → IsDigits 10 digits → IsDigitsOrNone 10 fraction → is_decimal_mantissa digits (Some fraction) ≡ true
  mantissa_true [] fraction d f = absurd d
  mantissa_true (c ∷ cs) fraction d f = ap (λ b. b && is_digits_or_none 10 fraction) (digits_again 10 (omega arith) (c ∷ cs) d) ∙ or_none_again 10 (omega arith) fraction f

  hexadecimal_true : (digits fraction : List ℕ) → IsLedDigits 16 digits → IsDigitsOrNone 16 fraction → is_hexadecimal_mantissa digits (Some fraction) ≡ true
  hexadecimal_true [] fraction d f = absurd d
  hexadecimal_true (c ∷ cs) fraction d f = ap (λ b. b && is_digits_or_none 16 fraction) (led_again 16 (omega arith) (c ∷ cs) d) ∙ or_none_again 16 (omega arith) fraction f

  point_plain : (digits fraction : List ℕ) → Each plain digits → Each plain fraction → Each plain (digits ++ (point ∷ fraction))
  point_plain digits fraction d f = each_append plain digits (point ∷ fraction) d (refl, f)

  letter_facts : (letter : ℕ) → is_decimal_letter letter ≡ true → (plain letter ≡ true) × (run Decimal letter ≡ false) × (eqb letter point ≡ false)
  letter_facts letter h = (grind (arith, nat_tests), grind (arith, nat_tests), grind (arith, nat_tests))

  binary_facts : (letter : ℕ) → is_binary_letter letter ≡ true → (run Hexadecimal letter ≡ false) × (eqb letter point ≡ false)
  binary_facts letter h = (grind (arith, nat_tests), grind (arith, nat_tests))

  or_right : (a b : Bool) → b ≡ true → (a || b) ≡ true
  or_right true b h = refl
  or_right false b h = h

  sign_plain : (sign : List ℕ) → IsSign sign → Each plain sign
  sign_plain sign no_sign = tt
  sign_plain sign a_plus = (refl, tt)
  sign_plain sign a_minus = (refl, tt)

  no_point : (letter : ℕ) (rest : List ℕ) → eqb letter point ≡ false → strip point (letter ∷ rest) ≡ None
  no_point letter rest h = ap (λ b. cond b (Some rest) None) h

  decimal_again : (whole : List ℕ) (fraction : Option (List ℕ)) (scale : List ℕ) → Each (in_class Digits) whole → Each plain (spelled whole fraction) → ((letter : ℕ) (rest : List ℕ) → eqb letter point ≡ false → EachFraction Decimal fraction (letter ∷ rest))
      → is_decimal_mantissa whole fraction ≡ true → IsExponent is_decimal_letter scale → number ((spelled whole fraction ++ scale) ++ tail) ≡ token (kind_of imaginary fraction true) true []
  decimal_again whole fraction scale w q f m (scale_of letter sign digits l s d) =
      let k = letter_facts letter l in
      scaled_again Decimal [] whole fraction letter sign digits no_prefix
      (each_append plain (spelled whole fraction) (letter ∷ (sign ++ (digits ++ tail))) q (k.0, each_append plain sign (digits ++ tail) (sign_plain sign s) (with_tail digits (ten_plain digits d))))
      w (f letter (sign ++ (digits ++ tail)) k.2) k.1 (or_right (is_binary_letter letter) (is_decimal_letter letter) l) s d
      (ap (λ b. (b && is_digits 10 digits) && is_decimal_mantissa whole fraction) l ∙ ap (λ b. b && is_decimal_mantissa whole fraction) (digits_again 10 (omega arith) digits d) ∙ m)

  hexadecimal_again : (c : ℕ) (whole : List ℕ) (fraction : Option (List ℕ)) (scale : List ℕ) → IsLetter 120 88 c → Each (in_class HexadecimalDigits) whole
      → ((letter : ℕ) (rest : List ℕ) → eqb letter point ≡ false → EachFraction Hexadecimal fraction (letter ∷ rest)) → is_hexadecimal_mantissa whole fraction ≡ true → IsExponent is_binary_letter scale
      → number ((digit_zero ∷ c ∷ (spelled whole fraction ++ scale)) ++ tail) ≡ token (kind_of imaginary fraction true) true []
  hexadecimal_again c whole fraction scale x w f m (scale_of letter sign digits l s d) =
      let k = binary_facts letter l in
      scaled_again Hexadecimal (digit_zero ∷ c ∷ []) whole fraction letter sign digits (hexadecimal_prefix c x) tt w (f letter (sign ++ (digits ++ tail)) k.1) k.0 l s d
      (ap (λ b. b && is_hexadecimal_mantissa whole fraction) (digits_again 10 (omega arith) digits d) ∙ m)

  point_again : (digits fraction : List ℕ) → Each (in_class Digits) digits → Each plain digits → IsDigitsOrNone 10 fraction → is_decimal_mantissa digits (Some fraction) ≡ true → (scale : List ℕ) → IsExponentOrNone is_decimal_letter scale
      → number (((digits ++ (point ∷ fraction)) ++ scale) ++ tail) ≡ token float_kind true []
  point_again digits fraction w q f m [] x =
      ap (λ l. number (l ++ tail)) (append_nil (digits ++ (point ∷ fraction)))
      ∙ unscaled_again Decimal [] digits (Some fraction) no_prefix (with_tail (digits ++ (point ∷ fraction)) (point_plain digits fraction q (ten_plain_or_none fraction f))) w (or_none_each fraction f) m
  point_again digits fraction w q f m (c ∷ cs) x = decimal_again digits (Some fraction) (c ∷ cs) w (point_plain digits fraction q (ten_plain_or_none fraction f)) (λ letter rest e. or_none_each fraction f) m x

  some_digits : (cs : List ℕ) → IsDigits 10 cs → IsDigitsOrNone 10 cs
  some_digits [] h = tt
  some_digits (c ∷ cs) h = h

  sixteen_each : (cs : List ℕ) → IsLedDigits 16 cs → Each (in_class HexadecimalDigits) cs
  sixteen_each cs h = each_led 16 (in_class HexadecimalDigits) sixteen_runs refl cs h

  pub float_again : (text : List ℕ) → IsFloat text → number (text ++ tail) ≡ token float_kind true []
  float_again text (whole_and_point digits fraction scale d f x) =
      ap (λ l. number (l ++ tail)) (sym (append_assoc digits (point ∷ fraction) scale)) ∙ point_again digits fraction (ten_each digits d) (ten_plain digits d) f (mantissa_true digits fraction d f) scale x
  float_again text (whole_and_exponent digits scale d x) = decimal_again digits None scale (ten_each digits d) (ten_plain digits d) no_point (digits_again 10 (omega arith) digits d) x
  float_again text (fraction_alone fraction scale d x) = point_again [] fraction tt tt (some_digits fraction d) (digits_again 10 (omega arith) fraction d) scale x
  float_again text (hexadecimal_and_point letter digits fraction scale l d f x) =
      ap (λ s. number ((digit_zero ∷ letter ∷ s) ++ tail)) (sym (append_assoc digits (point ∷ fraction) scale))
      ∙ hexadecimal_again letter digits (Some fraction) scale l (sixteen_each digits d) (λ c rest e. each_or_none 16 (in_class HexadecimalDigits) sixteen_runs refl fraction f) (hexadecimal_true digits fraction d f) x
  float_again text (hexadecimal_and_exponent letter digits scale l d x) = hexadecimal_again letter digits None scale l (sixteen_each digits d) no_point (led_again 16 (omega arith) digits d) x
  float_again text (hexadecimal_fraction letter fraction scale l d x) =
      hexadecimal_again letter [] (Some fraction) scale l tt (λ c rest e. each_digit 16 (in_class HexadecimalDigits) sixteen_runs refl fraction d) (digits_again 16 (omega arith) fraction d) x

-- a literal of the grammar, with nothing after it, is read as the number that it is
pub number_again : (kind : TokenKind) (text : List ℕ) → IsNumber kind text → number text ≡ token kind true []
number_again kind text (integer literal h) = ap number (sym (append_nil literal)) ∙ integer_again false [] real literal h
number_again kind text (float literal h) = ap number (sym (append_nil literal)) ∙ float_again false [] real literal h
number_again kind text (imaginary_digits literal h) = digits_read true (letter_i ∷ []) complex literal refl h
number_again kind text (imaginary_integer literal h) = integer_again true (letter_i ∷ []) complex literal h
number_again kind text (imaginary_float literal h) = float_again true (letter_i ∷ []) complex literal h
