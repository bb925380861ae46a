-- What a token of a source is: where it stands, and what is spelled there.
use Rattle.std.specs.Prelude.{◌≡◌, ◌≢◌, ◌≤◌, ◌-◌, ℕ, true, List, [], ◌∷◌, ◌++◌, length, take, drop}
use Rattle.std.specs.Str.{encode_utf8_all, all_scalars}
use Rattle.code_tables.specs.declared.words.Keyword.{Keyword}
use Rattle.code_tables.specs.Keyword.{keyword_text}
use Rattle.go_lexer.specs.declared.classes.Class.TheVariants.{Raw}
use Rattle.go_lexer.specs.declared.lexing.TheConstants.{SOURCE_LIMIT}
use Rattle.go_lexer.specs.declared.token_kinds.Token.{Token}
use Rattle.go_lexer.specs.declared.token_kinds.TokenKind.{TokenKind}
use Rattle.go_lexer.specs.declared.token_kinds.TokenKind.TheVariants.{Ident, Word, Rune, Text, Mark, Inserted}
use Rattle.go_lexer.specs.Characters.{double_quote, single_quote, back_quote}
use Rattle.go_lexer.specs.Classes.{in_class}
use Rattle.go_lexer.specs.Grammar.{Each, IsName, IsRuneText, IsStringText, IsMark}
use Rattle.go_lexer.specs.NumberGrammar.{IsNumber}
use Rattle.go_lexer.specs.TokenGrammar.{IsLexed}

-- the characters of a token, a case a kind
pub data Spells : TokenKind → List ℕ → Type 0 where
  identifier : (name : List ℕ) → IsName name → ((keyword : Keyword) → name ≢ keyword_text keyword) → Spells Ident name
  keyword : (keyword : Keyword) → Spells (Word keyword) (keyword_text keyword)
  number : (kind : TokenKind) (literal : List ℕ) → IsNumber kind literal → Spells kind literal
  rune : (inside : List ℕ) → IsRuneText inside → Spells Rune (single_quote ∷ (inside ++ (single_quote ∷ [])))
  string : (inside : List ℕ) → IsStringText inside → Spells Text (double_quote ∷ (inside ++ (double_quote ∷ [])))
  raw_string : (inside : List ℕ) → Each (in_class Raw) inside → Spells Text (back_quote ∷ (inside ++ (back_quote ∷ [])))
  mark : (text : List ℕ) → IsMark text → Spells Mark text
  inserted : Spells Inserted []

-- the bytes of a token's span
abbrev pub bytes_at : List ℕ → Token → List ℕ
bytes_at source t = take (t.end - t.start) (drop t.start source)

-- A token of a source: its span lies there, and its bytes are the UTF-8 of what its kind spells.
pub record IsTokenOf (source : List ℕ) (t : Token) : Type 0 where
  pub characters : List ℕ
  pub rises : t.start ≤ t.end
  pub inside : t.end ≤ length source
  pub scalars : all_scalars characters ≡ true
  pub utf8 : encode_utf8_all characters ≡ bytes_at source t
  pub spells : Spells t.kind characters

-- the tokens stand one behind the other, between two places
abbrev pub Rise : ℕ → ℕ → List Token → Type 0
Rise from to [] = from ≤ to
Rise from to (t ∷ ts) = (from ≤ t.start) × (t.start ≤ t.end) × Rise t.end to ts

-- a source and its tokens, as contracts see them together
pub record Lexed : Type 0 where
  pub source : List ℕ
  pub tokens : List Token

pub record AreTied (source : List ℕ) (tokens : List Token) : Type 0 where
  pub short : length source ≤ SOURCE_LIMIT
  pub lexed : IsLexed source tokens
