-- Rune literals and their values (the language specification's section of this name), a case a rule.
use Rattle.std.specs.Prelude.{◌≡◌, ◌≢◌, ◌<◌, nat_lt, ℕ, true, List, [], ◌∷◌, ◌++◌, length, encode_utf8}
use Rattle.std.specs.Char.{digit_value}
use Rattle.std.specs.Str.{all_scalars}
use Rattle.go_lexer.specs.Characters.{line_feed, single_quote, backslash, Each}
use Rattle.go_lexer.specs.Escapes.{is_code_point}
use Rattle.number_literals.specs.PlaceValues.{place_sum}

-- so many digits of a base
abbrev pub AreDigitsOf : ℕ → ℕ → List ℕ → Type 0
AreDigitsOf base n digits = Each (λ d. nat_lt (digit_value d) base) digits × (length digits ≡ n)

-- what stands behind the backslash of an escape, and the escape's value
pub data IsRuneEscape : List ℕ → ℕ → Type 0 where
  alert : IsRuneEscape (97 ∷ []) 7
  backspace : IsRuneEscape (98 ∷ []) 8
  form_feed : IsRuneEscape (102 ∷ []) 12
  new_line : IsRuneEscape (110 ∷ []) line_feed
  carriage_return : IsRuneEscape (114 ∷ []) 13
  horizontal_tab : IsRuneEscape (116 ∷ []) 9
  vertical_tab : IsRuneEscape (118 ∷ []) 11
  a_backslash : IsRuneEscape (backslash ∷ []) backslash
  quote : IsRuneEscape (single_quote ∷ []) single_quote
  octal : (digits : List ℕ) → AreDigitsOf 8 3 digits → place_sum 8 digits < 256
      → IsRuneEscape digits (place_sum 8 digits)
  hexadecimal : (digits : List ℕ) → AreDigitsOf 16 2 digits → IsRuneEscape (120 ∷ digits) (place_sum 16 digits)
  short_code_point : (digits : List ℕ) → AreDigitsOf 16 4 digits → is_code_point (place_sum 16 digits) ≡ true
      → IsRuneEscape (117 ∷ digits) (place_sum 16 digits)
  long_code_point : (digits : List ℕ) → AreDigitsOf 16 8 digits → is_code_point (place_sum 16 digits) ≡ true
      → IsRuneEscape (85 ∷ digits) (place_sum 16 digits)

-- what stands between the quotes, as bytes, and the literal's value
pub data IsRuneInside : List ℕ → ℕ → Type 0 where
  character : (c : ℕ) → all_scalars (c ∷ []) ≡ true → c ≢ single_quote → c ≢ line_feed → c ≢ backslash
      → IsRuneInside (encode_utf8 c) c
  escaped : (escape : List ℕ) (value : ℕ) → IsRuneEscape escape value → IsRuneInside (backslash ∷ escape) value

-- a rune literal with its quotes
pub data HasRune : List ℕ → ℕ → Type 0 where
  quoted : (inside : List ℕ) (value : ℕ) → IsRuneInside inside value
      → HasRune (single_quote ∷ (inside ++ (single_quote ∷ []))) value
