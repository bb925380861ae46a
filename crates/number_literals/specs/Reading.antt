-- The value of an integer literal, or none, for all bytes; and how the code reads digits.
use Rattle.std.specs.Prelude.{◌+◌, ◌*◌, ◌^◌, ◌==◌, ◌||◌, nat_lt, ℕ, Bool, List, [], ◌∷◌, if◌then◌else◌, Option, Some}
use Rattle.std.specs.Prelude.{None, Result, Ok, Err, option_and_then}
use Rattle.std.specs.Char.{digit_value}
use Rattle.go_lexer.specs.Characters.{underscore}
use Rattle.go_lexer.specs.Numbers.{is_digits, is_led_digits, leads_with_zero}
use Rattle.number_literals.specs.PlaceValues.{value_of}
use Rattle.number_literals.specs.declared.faults.ValueFault.{ValueFault}
use Rattle.number_literals.specs.declared.faults.ValueFault.TheVariants.{NotALiteral, Wide}

-- a value that is kept
abbrev pub below : ℕ → Option ℕ
below n = if nat_lt n (2 ^ 127) then Some n else None

-- what a byte makes of the value of the digits before it
abbrev pub step : ℕ → ℕ → ℕ → Option ℕ
step base value c = if c == underscore then Some value
    else (if nat_lt (digit_value c) base then below (value * base + digit_value c) else None)

abbrev pub run : ℕ → List ℕ → ℕ → Option ℕ
run base [] value = Some value
run base (c ∷ cs) value = option_and_then (run base cs) (step base value c)

abbrev pub kept : Option ℕ → Result ℕ ValueFault
kept (Some n) = Ok n
kept None = Err Wide

-- a value or none, as the code answers it
abbrev pub answer : Option ℕ → Result ℕ ValueFault
answer (Some n) = kept (below n)
answer None = Err NotALiteral

abbrev pub if_valid : Bool → ℕ → Option ℕ
if_valid valid n = if valid then Some n else None

abbrev pub plain_of : ℕ → List ℕ → Option ℕ
plain_of base digits = if_valid (is_digits base digits) (value_of base digits)

abbrev pub led_of : ℕ → List ℕ → Option ℕ
led_of base digits = if_valid (is_led_digits base digits) (value_of base digits)

abbrev pub prefix_radix : ℕ → Option ℕ
prefix_radix c =
    if c == 120 || c == 88 then Some 16
    else (if c == 111 || c == 79 then Some 8
    else (if c == 98 || c == 66 then Some 2
    else None))

abbrev pub by_radix : List ℕ → List ℕ → Option ℕ → Option ℕ
by_radix literal digits (Some base) = led_of base digits
by_radix literal digits None = plain_of 8 literal

-- a literal that begins with a zero
abbrev pub zero_of : List ℕ → Option ℕ
zero_of (z ∷ c ∷ digits) = by_radix (z ∷ c ∷ digits) digits (prefix_radix c)
zero_of literal = plain_of 8 literal

unfoldable pub whole_of : List ℕ → Option ℕ
whole_of literal = if leads_with_zero literal then zero_of literal else plain_of 10 literal
