-- The value of a rune literal, or none, for all bytes.
use Rattle.std.specs.Prelude.{◌+◌, ◌*◌, ◌==◌, ◌||◌, nat_lt, ℕ, List, [], ◌∷◌, length, if◌then◌else◌}
use Rattle.std.specs.Prelude.{Option, Some, None, option_map, option_and_then}
use Rattle.std.specs.Char.{digit_value}
use Rattle.std.specs.Str.{chars, is_utf8}
use Rattle.go_lexer.specs.Characters.{line_feed, single_quote, backslash}
use Rattle.go_lexer.specs.Escapes.{is_code_point}
use Rattle.number_literals.specs.Reading.{if_valid}

-- digits one by one, behind those of this value
abbrev pub fixed_run : ℕ → List ℕ → ℕ → Option ℕ
fixed_run base [] value = Some value
fixed_run base (d ∷ ds) value = if nat_lt (digit_value d) base then fixed_run base ds (value * base + digit_value d)
    else None

abbrev pub fixed_of : ℕ → ℕ → List ℕ → Option ℕ
fixed_of base n digits = if length digits == n then fixed_run base digits 0 else None

abbrev pub byte_of : Option ℕ → Option ℕ
byte_of (Some v) = if_valid (nat_lt v 256) v
byte_of None = None

abbrev pub code_point_of : Option ℕ → Option ℕ
code_point_of (Some v) = if_valid (is_code_point v) v
code_point_of None = None

abbrev pub simple_of : ℕ → Option ℕ
simple_of c =
    if c == 97 then Some 7
    else (if c == 98 then Some 8
    else (if c == 102 then Some 12
    else (if c == 110 then Some 10
    else (if c == 114 then Some 13
    else (if c == 116 then Some 9
    else (if c == 118 then Some 11
    else (if c == 92 || c == 39 then Some c
    else None)))))))

abbrev pub numbered_of : ℕ → List ℕ → Option ℕ
numbered_of c ds =
    if c == 120 then byte_of (fixed_of 16 2 ds)
    else (if c == 117 then code_point_of (fixed_of 16 4 ds)
    else (if c == 85 then code_point_of (fixed_of 16 8 ds)
    else byte_of (fixed_of 8 3 (c ∷ ds))))

abbrev pub escape_of : List ℕ → Option ℕ
escape_of [] = None
escape_of (c ∷ []) = simple_of c
escape_of (c ∷ d ∷ ds) = numbered_of c (d ∷ ds)

abbrev pub one_of : List ℕ → Option ℕ
one_of [] = None
one_of (c ∷ []) = Some c
one_of (c ∷ d ∷ cs) = None

-- a character that stands for itself
abbrev pub plain_of_one : Option ℕ → Option ℕ
plain_of_one (Some c) = if c == single_quote || (c == line_feed || c == backslash) then None else Some c
plain_of_one None = None

abbrev pub character_of : List ℕ → Option ℕ
character_of inside = if is_utf8 inside then plain_of_one (one_of (chars inside)) else None

abbrev pub inside_of : List ℕ → Option ℕ
inside_of [] = character_of []
inside_of (c ∷ cs) = if c == backslash then escape_of cs else character_of (c ∷ cs)

-- what stands before a quote at the end
abbrev pub before_quote : List ℕ → Option (List ℕ)
before_quote [] = None
before_quote (c ∷ []) = if c == single_quote then Some [] else None
before_quote (c ∷ d ∷ cs) = option_map (λ l. c ∷ l) (before_quote (d ∷ cs))

unfoldable pub rune_of : List ℕ → Option ℕ
rune_of [] = None
rune_of (c ∷ cs) = if c == single_quote then option_and_then inside_of (before_quote cs) else None
