-- The tokens of a source (the language specification's sections Source code representation, Tokens and Semicolons).
use Rattle.std.specs.Prelude.{◌≡◌, ◌≢◌, ℕ, true, false, not, List, [], ◌∷◌, length, Option, Some, None}
use Rattle.std.specs.Str.{encode_utf8_all, all_scalars}
use Rattle.go_lexer.specs.declared.token_kinds.Token.{Token}
use Rattle.go_lexer.specs.declared.token_kinds.TokenKind.{TokenKind}
use Rattle.go_lexer.specs.declared.token_kinds.TokenKind.TheVariants.{Inserted}
use Rattle.go_lexer.specs.Characters.{byte_order_mark}
use Rattle.go_lexer.specs.Grammar.{Each, IsPiece}
use Rattle.go_lexer.specs.Lexing.{place}
use Rattle.go_lexer.specs.Pieces.{blank, token}
use Rattle.go_lexer.specs.Source.{is_nul}

-- a semicolon is inserted: an empty span at this place
abbrev pub inserted : ℕ → Token
inserted at = record { kind = Inserted; start = at; end = at }

abbrev pub spanned : TokenKind → ℕ → ℕ → Token
spanned kind start end = record { kind = kind; start = start; end = end }

-- The tokens of the rest of a text whose end has this place. Where the last token on the line is one after which the
-- line's end inserts a semicolon, the option has that token's end.
pub data AreTokens (total : ℕ) : Option ℕ → List ℕ → List Token → Type 0 where
  end_of_file : AreTokens total None [] []
  semicolon_at_end_of_file : (at : ℕ) → AreTokens total (Some at) [] (inserted at ∷ [])
  between : (owed : Option ℕ) (text rest : List ℕ) (tokens : List Token) → IsPiece text (blank false rest)
      → AreTokens total owed rest tokens → AreTokens total owed text tokens
  end_of_line : (text rest : List ℕ) (tokens : List Token) → IsPiece text (blank true rest)
      → AreTokens total None rest tokens → AreTokens total None text tokens
  semicolon_at_end_of_line : (at : ℕ) (text rest : List ℕ) (tokens : List Token) → IsPiece text (blank true rest)
      → AreTokens total None rest tokens → AreTokens total (Some at) text (inserted at ∷ tokens)
  plain_token : (owed : Option ℕ) (kind : TokenKind) (text rest : List ℕ) (tokens : List Token)
      → IsPiece text (token kind false rest) → AreTokens total None rest tokens
      → AreTokens total owed text (spanned kind (place total text) (place total rest) ∷ tokens)
  last_of_line_token : (owed : Option ℕ) (kind : TokenKind) (text rest : List ℕ) (tokens : List Token)
      → IsPiece text (token kind true rest) → AreTokens total (Some (place total rest)) rest tokens
      → AreTokens total owed text (spanned kind (place total text) (place total rest) ∷ tokens)

-- the text after a byte order mark, or all of it
pub data IsUnmarked : List ℕ → List ℕ → Type 0 where
  marked : (text : List ℕ) → IsUnmarked (byte_order_mark ∷ text) text
  empty : IsUnmarked [] []
  unmarked : (c : ℕ) (text : List ℕ) → c ≢ byte_order_mark → IsUnmarked (c ∷ text) (c ∷ text)

-- The source is the UTF-8 of these characters and has no zero byte, and these are the tokens of what follows a byte
-- order mark.
pub record IsLexed (source : List ℕ) (tokens : List Token) : Type 0 where
  pub characters : List ℕ
  pub text : List ℕ
  pub scalars : all_scalars characters ≡ true
  pub utf8 : encode_utf8_all characters ≡ source
  pub no_nul : Each (λ b. not (is_nul b)) source
  pub start : IsUnmarked characters text
  pub are : AreTokens (length source) None text tokens
