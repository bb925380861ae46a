-- Which bytes a string literal stands for (the language specification's sections String literals and Rune literals), a
-- case a rule.
use Rattle.std.specs.Prelude.{◌≡◌, ◌≢◌, ◌<◌, ℕ, true, List, [], ◌∷◌, ◌++◌, encode_utf8, encode_utf8_all}
use Rattle.go_lexer.specs.Characters.{line_feed, double_quote, back_quote, backslash}
use Rattle.go_lexer.specs.Escapes.{is_code_point}
use Rattle.go_lexer.specs.Grammar.{AreDigits}
use Rattle.string_literals.specs.Values.{carriage_return}

-- what stands behind the backslash of an escape, and the bytes that the escape stands for
pub data IsEscape : List ℕ → List ℕ → Type 0 where
  alert : IsEscape (97 ∷ []) (7 ∷ [])
  backspace : IsEscape (98 ∷ []) (8 ∷ [])
  form_feed : IsEscape (102 ∷ []) (12 ∷ [])
  new_line : IsEscape (110 ∷ []) (line_feed ∷ [])
  return : IsEscape (114 ∷ []) (carriage_return ∷ [])
  horizontal_tab : IsEscape (116 ∷ []) (9 ∷ [])
  vertical_tab : IsEscape (118 ∷ []) (11 ∷ [])
  a_backslash : IsEscape (backslash ∷ []) (backslash ∷ [])
  quote : IsEscape (double_quote ∷ []) (double_quote ∷ [])
  octal : (digits : List ℕ) (value : ℕ) → AreDigits 8 3 0 digits value → value < 256 → IsEscape digits (value ∷ [])
  hexadecimal : (digits : List ℕ) (value : ℕ) → AreDigits 16 2 0 digits value → value < 256
      → IsEscape (120 ∷ digits) (value ∷ [])
  short_code_point : (digits : List ℕ) (value : ℕ) → AreDigits 16 4 0 digits value → is_code_point value ≡ true
      → IsEscape (117 ∷ digits) (encode_utf8 value)
  long_code_point : (digits : List ℕ) (value : ℕ) → AreDigits 16 8 0 digits value → is_code_point value ≡ true
      → IsEscape (85 ∷ digits) (encode_utf8 value)

-- what stands between double quotes, and its value
pub data IsText : List ℕ → List ℕ → Type 0 where
  nothing : IsText [] []
  byte : (b : ℕ) (bs value : List ℕ) → b ≢ double_quote → b ≢ line_feed → b ≢ backslash → IsText bs value
      → IsText (b ∷ bs) (b ∷ value)
  escaped : (escape bytes bs value : List ℕ) → IsEscape escape bytes → IsText bs value
      → IsText (backslash ∷ (escape ++ bs)) (bytes ++ value)

-- what stands between back quotes, and its value
pub data IsRawText : List ℕ → List ℕ → Type 0 where
  raw_nothing : IsRawText [] []
  -- discarded
  raw_return : (bs value : List ℕ) → IsRawText bs value → IsRawText (carriage_return ∷ bs) value
  raw_byte : (b : ℕ) (bs value : List ℕ) → b ≢ back_quote → b ≢ carriage_return → IsRawText bs value
      → IsRawText (b ∷ bs) (b ∷ value)

-- a string literal with its quotes, and its value
pub data HasValue : List ℕ → List ℕ → Type 0 where
  raw : (inside value : List ℕ) → IsRawText inside value → HasValue (back_quote ∷ (inside ++ (back_quote ∷ []))) value
  interpreted : (inside value : List ℕ) → IsText inside value
      → HasValue (double_quote ∷ (inside ++ (double_quote ∷ []))) value

abbrev pub IsValued : List ℕ → Type 0
IsValued literal = (value : List ℕ) × HasValue literal value

-- a literal whose characters between two such quotes are these
abbrev pub literal_of : ℕ → List ℕ → List ℕ
literal_of mark inside = mark ∷ (encode_utf8_all inside ++ (mark ∷ []))
