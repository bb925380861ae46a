-- The lexical grammar (the language specification's section Lexical elements), by one case a rule. A text is the list
-- of its characters.
use Rattle.std.specs.Prelude.{◌≡◌, ◌≢◌, ◌≤◌, ◌<◌, ℕ, zero, suc, Bool, true, false, ◌==◌, ◌&&◌, ◌||◌, ◌+◌, ◌*◌, ◌⊎◌}
use Rattle.std.specs.Prelude.{List, [], ◌∷◌, ◌++◌, length}
use Rattle.std.specs.Char.{digit_value}
use Rattle.code_tables.specs.declared.words.Keyword.{Keyword}
use Rattle.code_tables.specs.Keyword.{keyword_text}
use Rattle.go_lexer.specs.declared.token_kinds.TokenKind.{TokenKind}
use Rattle.go_lexer.specs.declared.token_kinds.TokenKind.TheVariants.{Ident, Word, Rune, Text, Mark}
use Rattle.go_lexer.specs.Characters.{line_feed, double_quote, single_quote, back_quote, backslash, star, slash, point}
pub use Rattle.go_lexer.specs.Characters.{Each, Ends}
use Rattle.go_lexer.specs.Classes.{is_letter, continues_name, is_space, is_decimal, in_class}
use Rattle.go_lexer.specs.declared.classes.Class.TheVariants.{Line, Raw}
use Rattle.go_lexer.specs.Front.{single_owes, pair_owes}
use Rattle.go_lexer.specs.NumberGrammar.{IsNumber}
use Rattle.go_lexer.specs.NumberShape.{LooksLikeNumber}
use Rattle.go_lexer.specs.Pieces.{Piece, blank, token}
use Rattle.go_lexer.specs.Words.{keyword_owes}
use Rattle.go_lexer.specs.Escapes.{is_code_point, is_simple}
use Rattle.go_lexer.specs.Marks.{is_single, is_pair, is_triple}

-- an identifier's spelling: a letter, and then letters and digits
abbrev pub IsName : List ℕ → Type 0
IsName [] = ⊥
IsName (c ∷ cs) = (is_letter c ≡ true) × Each continues_name cs

-- so many digits of a base, and their value after those of this value
abbrev pub AreDigits : ℕ → ℕ → ℕ → List ℕ → ℕ → Type 0
AreDigits base zero before [] value = before ≡ value
AreDigits base zero before (c ∷ cs) value = ⊥
AreDigits base (suc n) before [] value = ⊥
AreDigits base (suc n) before (c ∷ cs) value = (digit_value c < base)
    × AreDigits base n (before * base + digit_value c) cs value

-- what stands after the backslash of an escape, in a literal with this quote
pub data IsEscape (quote : ℕ) : List ℕ → Type 0 where
  simple : (c : ℕ) → is_simple quote c ≡ true → IsEscape quote (c ∷ [])
  hexadecimal : (cs : List ℕ) (value : ℕ) → AreDigits 16 2 0 cs value → value < 256 → IsEscape quote (120 ∷ cs)
  octal : (cs : List ℕ) (value : ℕ) → AreDigits 8 3 0 cs value → value < 256 → IsEscape quote cs
  short_code_point : (cs : List ℕ) (value : ℕ) → AreDigits 16 4 0 cs value → is_code_point value ≡ true
      → IsEscape quote (117 ∷ cs)
  long_code_point : (cs : List ℕ) (value : ℕ) → AreDigits 16 8 0 cs value → is_code_point value ≡ true
      → IsEscape quote (85 ∷ cs)

-- what stands between the quotes of an interpreted string
pub data IsStringText : List ℕ → Type 0 where
  nothing : IsStringText []
  character : (c : ℕ) (cs : List ℕ) → c ≢ double_quote → c ≢ line_feed → c ≢ backslash → IsStringText cs
      → IsStringText (c ∷ cs)
  escaped : (escape cs : List ℕ) → IsEscape double_quote escape → IsStringText cs
      → IsStringText (backslash ∷ (escape ++ cs))

-- what stands between the quotes of a rune literal
pub data IsRuneText : List ℕ → Type 0 where
  rune_character : (c : ℕ) → c ≢ single_quote → c ≢ line_feed → c ≢ backslash → IsRuneText (c ∷ [])
  rune_escaped : (escape : List ℕ) → IsEscape single_quote escape → IsRuneText (backslash ∷ escape)

-- Where the first `*/` stands: inside stands before it, and rest follows it.
pub data IsClosed : List ℕ → List ℕ → List ℕ → Type 0 where
  here : (rest : List ℕ) → IsClosed (star ∷ slash ∷ rest) [] rest
  later : (c : ℕ) (cs inside rest : List ℕ) → ((other : List ℕ) → c ∷ cs ≢ star ∷ slash ∷ other)
      → IsClosed cs inside rest → IsClosed (c ∷ cs) (c ∷ inside) rest

-- whether there is a line feed
abbrev pub has_line_feed : List ℕ → Bool
has_line_feed [] = false
has_line_feed (c ∷ cs) = c == line_feed || has_line_feed cs

-- an operator or a punctuation
abbrev pub IsMark : List ℕ → Type 0
IsMark (a ∷ []) = is_single a ≡ true
IsMark (a ∷ b ∷ []) = is_pair a b ≡ true
IsMark (a ∷ b ∷ c ∷ []) = is_triple a b c ≡ true
IsMark _ = ⊥

-- no longer one stands at the front
abbrev pub IsLongest : List ℕ → List ℕ → Type 0
IsLongest mark text = (other rest : List ℕ) → IsMark other → text ≡ other ++ rest → length other ≤ length mark

-- the text begins with a digit, or with a point and a digit
abbrev pub BeginsNumber : List ℕ → Type 0
BeginsNumber [] = ⊥
BeginsNumber (c ∷ []) = is_decimal c ≡ true
BeginsNumber (c ∷ d ∷ cs) = (is_decimal c ≡ true) ⊎ ((c ≡ point) × (is_decimal d ≡ true))

-- the text begins with `//` or `/*`
abbrev pub BeginsComment : List ℕ → Type 0
BeginsComment [] = ⊥
BeginsComment (c ∷ []) = ⊥
BeginsComment (c ∷ d ∷ cs) = (c ≡ slash) × ((d ≡ slash) ⊎ (d ≡ star))

-- a line that ends after `)`, `]`, `}`, `++` or `--` ends with a semicolon
abbrev pub mark_owes : List ℕ → Bool
mark_owes (a ∷ []) = single_owes a
mark_owes (a ∷ b ∷ []) = a == b && pair_owes b
mark_owes _ = false

-- The piece at the front of a text, and what follows it. Of a token it says too whether a line that ends after it ends
-- with a semicolon.
pub data IsPiece : List ℕ → Piece → Type 0 where
  white_space : (c : ℕ) (rest : List ℕ) → is_space c ≡ true → IsPiece (c ∷ rest) (blank (c == line_feed) rest)
  line_comment : (inside rest : List ℕ) → Each (in_class Line) inside → Ends (in_class Line) rest
      → IsPiece (slash ∷ slash ∷ (inside ++ rest)) (blank false rest)
  general_comment : (text inside rest : List ℕ) → IsClosed text inside rest
      → IsPiece (slash ∷ star ∷ text) (blank (has_line_feed inside) rest)
  identifier : (name rest : List ℕ) → IsName name → Ends continues_name rest
      → ((keyword : Keyword) → name ≢ keyword_text keyword) → IsPiece (name ++ rest) (token Ident true rest)
  keyword : (keyword : Keyword) (rest : List ℕ) → Ends continues_name rest
      → IsPiece (keyword_text keyword ++ rest) (token (Word keyword) (keyword_owes keyword) rest)
  -- all that looks like a number, which is one
  number : (kind : TokenKind) (literal rest : List ℕ) → IsNumber kind literal → BeginsNumber (literal ++ rest)
      → LooksLikeNumber literal rest → IsPiece (literal ++ rest) (token kind true rest)
  rune : (inside rest : List ℕ) → IsRuneText inside
      → IsPiece (single_quote ∷ (inside ++ (single_quote ∷ rest))) (token Rune true rest)
  string : (inside rest : List ℕ) → IsStringText inside
      → IsPiece (double_quote ∷ (inside ++ (double_quote ∷ rest))) (token Text true rest)
  raw_string : (inside rest : List ℕ) → Each (in_class Raw) inside
      → IsPiece (back_quote ∷ (inside ++ (back_quote ∷ rest))) (token Text true rest)
  mark : (text rest : List ℕ) → IsMark text → IsLongest text (text ++ rest) → (BeginsComment (text ++ rest) → ⊥)
      → (BeginsNumber (text ++ rest) → ⊥) → IsPiece (text ++ rest) (token Mark (mark_owes text) rest)
