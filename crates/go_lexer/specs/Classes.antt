-- Classes of characters (the language specification's sections Letters and digits, Tokens).
use Rattle.std.specs.Prelude.{ℕ, Bool, true, false, not, ◌==◌, ◌||◌, nat_lt}
use Rattle.std.specs.Char.{digit_value}
use Rattle.unicode.specs.GeneralCategory.{general_category}
use Rattle.ucd_category.specs.declared.GeneralCategory.{GeneralCategory}
use Rattle.ucd_category.specs.declared.GeneralCategory.TheVariants.{UppercaseLetter, LowercaseLetter, TitlecaseLetter}
use Rattle.ucd_category.specs.declared.GeneralCategory.TheVariants.{ModifierLetter, OtherLetter, DecimalNumber}
use Rattle.go_lexer.specs.Characters.{underscore, line_feed, back_quote}
use Rattle.go_lexer.specs.declared.classes.Class.{Class}
use Rattle.go_lexer.specs.declared.classes.Class.TheVariants.{Name, Line, Raw, Digits, Hexadecimal}

-- the categories Lu, Ll, Lt, Lm and Lo
abbrev pub is_letter_category : GeneralCategory → Bool
is_letter_category UppercaseLetter = true
is_letter_category LowercaseLetter = true
is_letter_category TitlecaseLetter = true
is_letter_category ModifierLetter = true
is_letter_category OtherLetter = true
is_letter_category _ = false

-- the category Nd
abbrev pub is_digit_category : GeneralCategory → Bool
is_digit_category DecimalNumber = true
is_digit_category _ = false

unfoldable pub is_letter : ℕ → Bool
is_letter c = is_letter_category (general_category c) || c == underscore

-- a letter, or a digit of an identifier
unfoldable pub continues_name : ℕ → Bool
continues_name c = is_letter c || is_digit_category (general_category c)

-- white space: space, horizontal tab, carriage return and line feed
abbrev pub is_space : ℕ → Bool
is_space c = c == 32 || c == 9 || c == 13 || c == line_feed

abbrev pub is_decimal : ℕ → Bool
is_decimal c = nat_lt (digit_value c) 10

-- what runs of characters are made of
abbrev pub in_class : Class → ℕ → Bool
in_class Name c = continues_name c
in_class Line c = not (c == line_feed)
in_class Raw c = not (c == back_quote)
in_class Digits c = is_decimal c || c == underscore
in_class Hexadecimal c = nat_lt (digit_value c) 16 || c == underscore

-- runs of digits
abbrev pub is_digit_class : Class → Bool
is_digit_class Digits = true
is_digit_class Hexadecimal = true
is_digit_class _ = false
