-- The value of digits: the sum of their place values.
use Rattle.std.specs.Prelude.{◌+◌, ◌*◌, ◌^◌, ◌==◌, ℕ, List, [], ◌∷◌, length, if◌then◌else◌}
use Rattle.std.specs.Char.{digit_value}
use Rattle.go_lexer.specs.Characters.{underscore}

-- digits without the `_` between them
abbrev pub plain_digits : List ℕ → List ℕ
plain_digits [] = []
plain_digits (c ∷ cs) = if c == underscore then plain_digits cs else c ∷ plain_digits cs

-- each digit, times the base to the power of the number of digits behind it
abbrev pub place_sum : ℕ → List ℕ → ℕ
place_sum base [] = 0
place_sum base (d ∷ ds) = digit_value d * base ^ length ds + place_sum base ds

abbrev pub value_of : ℕ → List ℕ → ℕ
value_of base digits = place_sum base (plain_digits digits)
