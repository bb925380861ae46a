-- Number literals (the language specification's sections Integer literals, Floating-point literals and Imaginary
-- literals), by one case a rule.
use Rattle.std.specs.Prelude.{◌≡◌, ◌<◌, ℕ, Bool, true, false, ◌⊎◌, List, [], ◌∷◌, ◌++◌}
use Rattle.std.specs.Char.{digit_value}
use Rattle.go_lexer.specs.declared.token_kinds.TokenKind.{TokenKind}
use Rattle.go_lexer.specs.declared.token_kinds.TokenKind.TheVariants.{Whole, Floating, Imaginary}
use Rattle.go_lexer.specs.Characters.{digit_zero, letter_i, minus, plus, point, underscore}
use Rattle.go_lexer.specs.Numbers.{is_binary_letter, is_decimal_letter, leads_with_zero}

-- decimal_digits, octal_digits and the like: a digit, and then digits that each may have a `_` before them
abbrev pub IsDigits : ℕ → List ℕ → Type 0
IsDigits radix [] = ⊥
IsDigits radix (d ∷ []) = digit_value d < radix
IsDigits radix (d ∷ e ∷ ds) = (digit_value d < radix)
    × (IsDigits radix (e ∷ ds) ⊎ ((e ≡ underscore) × IsDigits radix ds))

abbrev pub IsDigitsOrNone : ℕ → List ℕ → Type 0
IsDigitsOrNone radix [] = Unit {0}
IsDigitsOrNone radix (d ∷ ds) = IsDigits radix (d ∷ ds)

-- the digits after a prefix, which may have a `_` before them
abbrev pub IsLedDigits : ℕ → List ℕ → Type 0
IsLedDigits radix [] = ⊥
IsLedDigits radix (d ∷ ds) = ((d ≡ underscore) × IsDigits radix ds) ⊎ IsDigits radix (d ∷ ds)

-- the letter of a prefix, in either case
abbrev pub IsLetter : ℕ → ℕ → ℕ → Type 0
IsLetter small large c = (c ≡ small) ⊎ (c ≡ large)

pub data IsInteger : List ℕ → Type 0 where
  decimal : (digits : List ℕ) → leads_with_zero digits ≡ false → IsDigits 10 digits → IsInteger digits
  zero_or_octal : (digits : List ℕ) → leads_with_zero digits ≡ true → IsDigits 8 digits → IsInteger digits
  binary : (letter : ℕ) (digits : List ℕ) → IsLetter 98 66 letter → IsLedDigits 2 digits
      → IsInteger (digit_zero ∷ letter ∷ digits)
  octal : (letter : ℕ) (digits : List ℕ) → IsLetter 111 79 letter → IsLedDigits 8 digits
      → IsInteger (digit_zero ∷ letter ∷ digits)
  hexadecimal : (letter : ℕ) (digits : List ℕ) → IsLetter 120 88 letter → IsLedDigits 16 digits
      → IsInteger (digit_zero ∷ letter ∷ digits)

pub data IsSign : List ℕ → Type 0 where
  no_sign : IsSign []
  a_plus : IsSign (plus ∷ [])
  a_minus : IsSign (minus ∷ [])

-- an exponent that this letter begins, a sign or none, and digits
pub data IsExponent (is_letter : ℕ → Bool) : List ℕ → Type 0 where
  exponent : (letter : ℕ) (sign digits : List ℕ) → is_letter letter ≡ true → IsSign sign → IsDigits 10 digits
      → IsExponent is_letter (letter ∷ (sign ++ digits))

abbrev pub IsExponentOrNone : (ℕ → Bool) → List ℕ → Type 0
IsExponentOrNone is_letter [] = Unit {0}
IsExponentOrNone is_letter (c ∷ cs) = IsExponent is_letter (c ∷ cs)

pub data IsFloat : List ℕ → Type 0 where
  whole_and_point : (digits fraction scale : List ℕ) → IsDigits 10 digits → IsDigitsOrNone 10 fraction
      → IsExponentOrNone is_decimal_letter scale → IsFloat (digits ++ (point ∷ (fraction ++ scale)))
  whole_and_exponent : (digits scale : List ℕ) → IsDigits 10 digits → IsExponent is_decimal_letter scale
      → IsFloat (digits ++ scale)
  fraction_alone : (fraction scale : List ℕ) → IsDigits 10 fraction → IsExponentOrNone is_decimal_letter scale
      → IsFloat (point ∷ (fraction ++ scale))
  hexadecimal_and_point : (letter : ℕ) (digits fraction scale : List ℕ) → IsLetter 120 88 letter
      → IsLedDigits 16 digits → IsDigitsOrNone 16 fraction → IsExponent is_binary_letter scale
      → IsFloat (digit_zero ∷ letter ∷ (digits ++ (point ∷ (fraction ++ scale))))
  hexadecimal_and_exponent : (letter : ℕ) (digits scale : List ℕ) → IsLetter 120 88 letter → IsLedDigits 16 digits
      → IsExponent is_binary_letter scale → IsFloat (digit_zero ∷ letter ∷ (digits ++ scale))
  hexadecimal_fraction : (letter : ℕ) (fraction scale : List ℕ) → IsLetter 120 88 letter → IsDigits 16 fraction
      → IsExponent is_binary_letter scale → IsFloat (digit_zero ∷ letter ∷ (point ∷ (fraction ++ scale)))

pub data IsNumber : TokenKind → List ℕ → Type 0 where
  integer : (text : List ℕ) → IsInteger text → IsNumber Whole text
  float : (text : List ℕ) → IsFloat text → IsNumber Floating text
  imaginary_digits : (text : List ℕ) → IsDigits 10 text → IsNumber Imaginary (text ++ (letter_i ∷ []))
  imaginary_integer : (text : List ℕ) → IsInteger text → IsNumber Imaginary (text ++ (letter_i ∷ []))
  imaginary_float : (text : List ℕ) → IsFloat text → IsNumber Imaginary (text ++ (letter_i ∷ []))

-- a number literal at the front of a text, and what follows it
abbrev pub IsNumberAt : TokenKind → List ℕ → List ℕ → Type 0
IsNumberAt kind text rest = (literal : List ℕ) × (text ≡ literal ++ rest) × IsNumber kind literal
