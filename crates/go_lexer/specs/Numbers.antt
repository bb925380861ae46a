-- What looks like a number, and whether it is one (the language specification's sections Integer literals,
-- Floating-point literals and Imaginary literals).
use Rattle.std.specs.Prelude.{ℕ, Bool, true, false, not, ◌==◌, ◌||◌, ◌&&◌, nat_lt, List, [], ◌∷◌, if◌then◌else◌, Option}
use Rattle.std.specs.Prelude.{Some, None, is_some, option_map}
use Rattle.std.specs.Str.{chars}
use Rattle.std.specs.Char.{digit_value}
use Rattle.go_lexer.specs.declared.token_kinds.TokenKind.{TokenKind}
use Rattle.go_lexer.specs.declared.token_kinds.TokenKind.TheVariants.{Whole, Floating, Imaginary}
use Rattle.go_lexer.specs.declared.pieces.Breach.TheVariants.{BadNumber}
use Rattle.go_lexer.specs.declared.classes.Class.{Class}
use Rattle.go_lexer.specs.declared.classes.Class.TheVariants.{Digits, Hexadecimal as HexadecimalDigits}
use Rattle.go_lexer.specs.declared.numbers.Base.{Base}
use Rattle.go_lexer.specs.declared.numbers.Base.TheVariants.{Decimal, Binary, Octal, Hexadecimal}
use Rattle.go_lexer.specs.declared.numbers.Mantissa.{Mantissa as ReadMantissa}
use Rattle.go_lexer.specs.declared.numbers.Exponent.{Exponent as ReadExponent}
use Rattle.go_lexer.specs.Characters.{plus, minus, point, digit_zero, letter_i, underscore, split, strip, front_while}
use Rattle.go_lexer.specs.Characters.{after_while}
use Rattle.go_lexer.specs.Classes.{in_class}
use Rattle.go_lexer.specs.Pieces.{Piece, token, stop}

-- the base that a letter after a zero says
abbrev pub prefix_base : ℕ → Option Base
prefix_base c =
    if c == 120 || c == 88 then Some Hexadecimal
    else (if c == 111 || c == 79 then Some Octal
    else (if c == 98 || c == 66 then Some Binary
    else None))

-- a base, and the characters after the prefix
abbrev pub based : List ℕ → List ℕ → Option Base → Base × List ℕ
based text digits (Some base) = (base, digits)
based text digits None = (Decimal, text)

abbrev pub prefixed : List ℕ → Option (ℕ × List ℕ) → Base × List ℕ
prefixed text None = (Decimal, text)
prefixed text (Some (c, digits)) = based text digits (prefix_base c)

abbrev pub after_zero : List ℕ → Option (List ℕ) → Base × List ℕ
after_zero text None = (Decimal, text)
after_zero text (Some rest) = prefixed text (split rest)

abbrev pub base_of : List ℕ → Base × List ℕ
base_of text = after_zero text (strip digit_zero text)

-- what stands in a run of a number's digits
abbrev pub digits_class : Base → Class
digits_class Hexadecimal = HexadecimalDigits
digits_class _ = Digits

abbrev pub run : Base → ℕ → Bool
run base = in_class (digits_class base)

-- the digits before the point, those after it where there is one, and what follows
pub record Mantissa : Type 0 where
  pub base : Base
  pub whole : List ℕ
  pub fraction : Option (List ℕ)
  pub rest : List ℕ

abbrev pub fraction_after : Base → List ℕ → List ℕ → Option (List ℕ) → Mantissa
fraction_after base whole after None = record { base = base; whole = whole; fraction = None; rest = after }
fraction_after base whole after (Some more) = record
    { base = base; whole = whole; fraction = Some (front_while (run base) more); rest = after_while (run base) more }

abbrev pub mantissa_in : Base × List ℕ → Mantissa
mantissa_in b = fraction_after b.0 (front_while (run b.0) b.1) (after_while (run b.0) b.1)
    (strip point (after_while (run b.0) b.1))

abbrev pub mantissa : List ℕ → Mantissa
mantissa text = mantissa_in (base_of text)

-- the letter, the digits and what follows
pub record Exponent : Type 0 where
  pub letter : ℕ
  pub digits : List ℕ
  pub rest : List ℕ

abbrev pub is_decimal_letter : ℕ → Bool
is_decimal_letter c = c == 101 || c == 69

abbrev pub is_binary_letter : ℕ → Bool
is_binary_letter c = c == 112 || c == 80

-- the letters e and E are digits in base 16
abbrev pub is_exponent_letter : Base → ℕ → Bool
is_exponent_letter Hexadecimal c = is_binary_letter c
is_exponent_letter _ c = is_binary_letter c || is_decimal_letter c

abbrev pub after_sign : List ℕ → List ℕ
after_sign [] = []
after_sign (c ∷ cs) = if c == plus || c == minus then cs else (c ∷ cs)

abbrev pub exponent : Base → List ℕ → Option Exponent
exponent base [] = None
exponent base (c ∷ cs) =
    if is_exponent_letter base c
    then Some (record {
      letter = c;
      digits = front_while (in_class Digits) (after_sign cs);
      rest = after_while (in_class Digits)
          (after_sign cs);
    })
    else None

-- digits of a base, with single `_` between them
abbrev pub digits_after : ℕ → Bool → List ℕ → Bool
digits_after radix after [] = after
digits_after radix after (c ∷ cs) = if c == underscore then after && digits_after radix false cs
    else nat_lt (digit_value c) radix && digits_after radix true cs

abbrev pub is_digits : ℕ → List ℕ → Bool
is_digits radix cs = digits_after radix false cs

-- the same, after one `_` or none
abbrev pub is_led_digits : ℕ → List ℕ → Bool
is_led_digits radix [] = false
is_led_digits radix (c ∷ cs) = if c == underscore then is_digits radix cs else is_digits radix (c ∷ cs)

abbrev pub is_digits_or_none : ℕ → List ℕ → Bool
is_digits_or_none radix [] = true
is_digits_or_none radix (c ∷ cs) = is_digits radix (c ∷ cs)

abbrev pub leads_with_zero : List ℕ → Bool
leads_with_zero [] = false
leads_with_zero (c ∷ cs) = c == digit_zero

-- an integer literal, or with i its imaginary form, whose digits after the prefix these are
abbrev pub is_whole : Base → Bool → List ℕ → Bool
is_whole Decimal imaginary digits = if leads_with_zero digits && not imaginary then is_digits 8 digits
    else is_digits 10 digits
is_whole Binary imaginary digits = is_led_digits 2 digits
is_whole Octal imaginary digits = is_led_digits 8 digits
is_whole Hexadecimal imaginary digits = is_led_digits 16 digits

-- the digits of a floating-point literal before its exponent
abbrev pub is_decimal_mantissa : List ℕ → Option (List ℕ) → Bool
is_decimal_mantissa whole None = is_digits 10 whole
is_decimal_mantissa [] (Some fraction) = is_digits 10 fraction
is_decimal_mantissa (c ∷ cs) (Some fraction) = is_digits 10 (c ∷ cs) && is_digits_or_none 10 fraction

abbrev pub is_hexadecimal_mantissa : List ℕ → Option (List ℕ) → Bool
is_hexadecimal_mantissa whole None = is_led_digits 16 whole
is_hexadecimal_mantissa [] (Some fraction) = is_digits 16 fraction
is_hexadecimal_mantissa (c ∷ cs) (Some fraction) = is_led_digits 16 (c ∷ cs) && is_digits_or_none 16 fraction

-- with no exponent
abbrev pub is_unscaled : Bool → Base → List ℕ → Option (List ℕ) → Bool
is_unscaled imaginary base whole None = is_whole base imaginary whole
is_unscaled imaginary Decimal whole (Some fraction) = is_decimal_mantissa whole (Some fraction)
is_unscaled imaginary _ whole (Some fraction) = false

-- with an exponent
abbrev pub is_scaled : Base → List ℕ → Option (List ℕ) → ℕ → List ℕ → Bool
is_scaled Decimal whole fraction letter digits = is_decimal_letter letter && is_digits 10 digits
    && is_decimal_mantissa whole fraction
is_scaled Hexadecimal whole fraction letter digits = is_digits 10 digits && is_hexadecimal_mantissa whole fraction
is_scaled _ whole fraction letter digits = false

abbrev pub is_number : Bool → Mantissa → Option Exponent → Bool
is_number imaginary m None = is_unscaled imaginary m.base m.whole m.fraction
is_number imaginary m (Some e) = is_scaled m.base m.whole m.fraction e.letter e.digits

-- what follows the mantissa and the exponent
abbrev pub after_exponent : Mantissa → Option Exponent → List ℕ
after_exponent m None = m.rest
after_exponent m (Some e) = e.rest

abbrev pub number_kind : Option (List ℕ) → Bool → TokenKind
number_kind None false = Whole
number_kind None true = Floating
number_kind (Some digits) scaled = Floating

-- a number that this character does or doesn't make imaginary, where it is one
abbrev pub number_piece : List ℕ → Mantissa → Option Exponent → Option (List ℕ) → Piece
number_piece start m e None = if is_number false m e
    then token (number_kind m.fraction (is_some e)) true (after_exponent m e) else stop BadNumber start
number_piece start m e (Some rest) = if is_number true m e then token Imaginary true rest else stop BadNumber start

abbrev pub number_by : List ℕ → Mantissa → Option Exponent → Piece
number_by start m e = number_piece start m e (strip letter_i (after_exponent m e))

-- a number, of a text that begins with a digit or with a point and a digit
abbrev pub number : List ℕ → Piece
number text = number_by text (mantissa text) (exponent (mantissa text).base (mantissa text).rest)

-- what the program reads, by the characters of its text
abbrev pub mantissa_of : ReadMantissa → Mantissa
mantissa_of m = record
    { base = m.base; whole = m.whole.now; fraction = option_map (λ f. f.now) m.fraction; rest = chars m.rest.now }

abbrev pub exponent_of : ReadExponent → Exponent
exponent_of e = record { letter = e.letter; digits = e.digits.now; rest = chars e.rest.now }
