-- Escapes in rune and string literals (the language specification's section Rune literals).
use Rattle.std.specs.Prelude.{ℕ, zero, suc, Bool, ◌+◌, ◌*◌, ◌==◌, ◌||◌, ◌&&◌, nat_lt, nat_le, List, [], ◌∷◌}
use Rattle.std.specs.Prelude.{if◌then◌else◌, codes}
use Rattle.std.specs.List.{list_any}
use Rattle.std.specs.Str.{chars}
use Rattle.std.specs.Char.{digit_value}
use Rattle.go_lexer.specs.declared.escapes.Digits.{Digits as ReadDigits}
use Rattle.go_lexer.specs.declared.escapes.Digits.TheVariants as read_digits
use Rattle.go_lexer.specs.declared.escapes.Escape.{Escape as ReadEscape}
use Rattle.go_lexer.specs.declared.escapes.Escape.TheVariants as read

-- The digits of an escape: their number and what follows, a character that is no digit, or the text ends.
pub data Digits : Type 0 where
  number : ℕ → List ℕ → Digits
  broken : Digits
  short : Digits

-- so many digits of a base, after those that have this value
abbrev pub digits : ℕ → ℕ → ℕ → List ℕ → Digits
digits base zero value cs = number value cs
digits base (suc n) value [] = short
digits base (suc n) value (c ∷ cs) = if nat_lt (digit_value c) base
    then digits base n (value * base + digit_value c) cs else broken

-- What stands after a backslash: an escape and what follows it, none, or one inside which the text ends.
pub data Escape : Type 0 where
  whole : List ℕ → Escape
  wrong : Escape
  cut : Escape

-- the value fits a byte
abbrev pub byte_escape : Digits → Escape
byte_escape (number value rest) = if nat_lt value 256 then whole rest else wrong
byte_escape broken = wrong
byte_escape short = cut

-- the value is a Unicode code point, and no surrogate half
abbrev pub is_code_point : ℕ → Bool
is_code_point value = nat_lt value 55296 || (nat_le 57344 value && nat_lt value 1114112)

abbrev pub code_point_escape : Digits → Escape
code_point_escape (number value rest) = if is_code_point value then whole rest else wrong
code_point_escape broken = wrong
code_point_escape short = cut

-- a backslash and one of these characters, or the literal's own quote
abbrev pub is_simple : ℕ → ℕ → Bool
is_simple quote c = list_any (λ m. m == c) (codes "abfnrtv\\") || c == quote

abbrev pub escape : ℕ → List ℕ → Escape
escape quote [] = cut
escape quote (c ∷ cs) =
    if is_simple quote c then whole cs
    else (if c == 120 then byte_escape (digits 16 2 0 cs)
    else (if c == 117 then code_point_escape (digits 16 4 0 cs)
    else (if c == 85 then code_point_escape (digits 16 8 0 cs)
    else byte_escape (digits 8 3 0 (c ∷ cs)))))

-- what the program reads, by the characters of its text
abbrev pub digits_of : ReadDigits → Digits
digits_of (read_digits.Number value rest) = number value (chars rest.now)
digits_of read_digits.Broken = broken
digits_of read_digits.Short = short

abbrev pub escape_of : ReadEscape → Escape
escape_of (read.Whole rest) = whole (chars rest.now)
escape_of read.Wrong = wrong
escape_of read.Cut = cut
