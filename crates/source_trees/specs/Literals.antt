-- The values of literals: as a relation between what a token spells and its value, and as a function on all bytes.
use Rattle.std.specs.Prelude.{◌<◌, ◌≤◌, ◌^◌, ℕ, List, Option, Some, None, Result, Ok, Err, pos}
use Rattle.go_lexer.specs.declared.token_kinds.Token.{Token}
use Rattle.go_lexer.specs.declared.token_kinds.TokenKind.{TokenKind}
use Rattle.go_lexer.specs.declared.token_kinds.TokenKind.TheVariants as kind
use Rattle.number_literals.specs.Reading.{answer, whole_of}
use Rattle.number_literals.specs.RuneReading.{rune_of}
use Rattle.number_literals.specs.Runes.{HasRune}
use Rattle.number_literals.specs.Wholes.{HasWhole}
use Rattle.number_literals.specs.declared.faults.ValueFault.{ValueFault}
use Rattle.number_literals.specs.declared.faults.ValueFault.TheVariants.{NotALiteral, Wide}
use Rattle.string_literals.specs.Grammar.{HasValue}
use Rattle.string_literals.specs.Values.{value_of}
use Rattle.source_trees.specs.declared.literals.Literal.{Literal}
use Rattle.source_trees.specs.declared.literals.Literal.TheVariants as lit
use Rattle.source_trees.specs.Words.{span}

-- what a literal of a kind is worth, a case a kind
pub data HasLiteral : TokenKind → List ℕ → Literal → Type 0 where
  a_whole : (bytes : List ℕ) (n : ℕ) → HasWhole bytes n → n < 2 ^ 127 → HasLiteral kind.Whole bytes (lit.Whole (pos n))
  a_wide_one : (bytes : List ℕ) (n : ℕ) → HasWhole bytes n → 2 ^ 127 ≤ n → HasLiteral kind.Whole bytes lit.TooWide
  a_rune : (bytes : List ℕ) (n : ℕ) → HasRune bytes n → HasLiteral kind.Rune bytes (lit.Rune n)
  a_text : (bytes value : List ℕ) → HasValue bytes value → HasLiteral kind.Text bytes (lit.Text value)
  a_floating_one : (bytes : List ℕ) → HasLiteral kind.Floating bytes lit.Floating
  an_imaginary_one : (bytes : List ℕ) → HasLiteral kind.Imaginary bytes lit.Imaginary

abbrev pub whole_literal : Result ℕ ValueFault → Literal
whole_literal (Ok n) = lit.Whole (pos n)
whole_literal (Err Wide) = lit.TooWide
whole_literal (Err NotALiteral) = lit.NoLiteral

abbrev pub rune_literal : Option ℕ → Literal
rune_literal (Some n) = lit.Rune n
rune_literal None = lit.NoLiteral

abbrev pub literal_by : TokenKind → List ℕ → Literal
literal_by kind.Whole bytes = whole_literal (answer (whole_of bytes))
literal_by kind.Rune bytes = rune_literal (rune_of bytes)
literal_by kind.Text bytes = lit.Text (value_of bytes)
literal_by kind.Floating bytes = lit.Floating
literal_by kind.Imaginary bytes = lit.Imaginary
literal_by _ bytes = lit.NoLiteral

-- the value of the literal that a token is
unfoldable pub literal_of : List ℕ → Token → Literal
literal_of source token = literal_by token.kind (span source token.start token.end)
