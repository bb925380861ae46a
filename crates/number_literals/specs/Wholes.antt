-- Integer literals and their values (the language specification's section of this name), a case a rule.
use Rattle.std.specs.Prelude.{◌≡◌, ◌≤◌, ◌^◌, ℕ, true, false, List, ◌∷◌}
use Rattle.go_lexer.specs.Characters.{digit_zero}
use Rattle.go_lexer.specs.NumberGrammar.{IsDigits, IsLedDigits, IsLetter}
use Rattle.go_lexer.specs.Numbers.{leads_with_zero}
use Rattle.number_literals.specs.PlaceValues.{value_of}
use Rattle.number_literals.specs.declared.faults.ValueFault.{ValueFault}
use Rattle.number_literals.specs.declared.faults.ValueFault.TheVariants.{NotALiteral, Wide}

-- the characters of a literal, which are its bytes, and its value
pub data HasWhole : List ℕ → ℕ → Type 0 where
  decimal : (digits : List ℕ) → leads_with_zero digits ≡ false → IsDigits 10 digits
      → HasWhole digits (value_of 10 digits)
  zero_or_octal : (digits : List ℕ) → leads_with_zero digits ≡ true → IsDigits 8 digits
      → HasWhole digits (value_of 8 digits)
  binary : (letter : ℕ) (digits : List ℕ) → IsLetter 98 66 letter → IsLedDigits 2 digits
      → HasWhole (digit_zero ∷ letter ∷ digits) (value_of 2 digits)
  octal : (letter : ℕ) (digits : List ℕ) → IsLetter 111 79 letter → IsLedDigits 8 digits
      → HasWhole (digit_zero ∷ letter ∷ digits) (value_of 8 digits)
  hexadecimal : (letter : ℕ) (digits : List ℕ) → IsLetter 120 88 letter → IsLedDigits 16 digits
      → HasWhole (digit_zero ∷ letter ∷ digits) (value_of 16 digits)

-- why a literal has no value here: it is none, or its value is above 2^127 - 1
abbrev pub IsWholeFault : List ℕ → ValueFault → Type 0
IsWholeFault literal NotALiteral = (n : ℕ) → HasWhole literal n → ⊥
IsWholeFault literal Wide = (n : ℕ) × HasWhole literal n × (2 ^ 127 ≤ n)
