-- What stands in a source: names, literals and expressions whose spans lie there and spell what they are.
use Rattle.std.specs.Prelude.{◌≡◌, ◌<◌, ℕ, Bool, true, false, List, [], ◌∷◌, length, Option, Some, None}
use Rattle.go_lexer.specs.TokenTexts.{IsTokenOf, bytes_at}
use Rattle.go_lexer.specs.declared.token_kinds.Token.{Token}
use Rattle.go_lexer.specs.declared.token_kinds.TokenKind.{TokenKind}
use Rattle.go_lexer.specs.declared.token_kinds.TokenKind.TheVariants as kind
use Rattle.go_expr_syntax.specs.declared.symbols.Ident.{Ident}
use Rattle.go_expr_syntax.specs.declared.symbols.Symbol.{Symbol}
use Rattle.go_expr_syntax.specs.declared.symbols.Symbol.TheVariants as t
use Rattle.go_expr_syntax.specs.Reading.{symbol_start}
use Rattle.go_expr_syntax.specs.PlainExprs.{PlainName, PlainExpr, literal, named, convert, paren, unary, binary}

-- the token of an identifier
abbrev pub ident_token : Ident → Token
ident_token i = record { kind = kind.Ident; start = i.start; end = i.end }

abbrev pub is_literal : TokenKind → Bool
is_literal kind.Whole = true
is_literal kind.Floating = true
is_literal kind.Imaginary = true
is_literal kind.Rune = true
is_literal kind.Text = true
is_literal _ = false

-- its span lies in the source and spells a name
abbrev pub IdentStands : List ℕ → Ident → Type 0
IdentStands src i = IsTokenOf src (ident_token i)

abbrev pub LiteralStands : List ℕ → Token → Type 0
LiteralStands src token = IsTokenOf src token × (is_literal token.kind ≡ true)

-- a byte stands there
abbrev pub PlaceStands : List ℕ → ℕ → Type 0
PlaceStands src at = at < length src

abbrev pub IdentsStand : List ℕ → List Ident → Type 0
IdentsStand src [] = Unit {0}
IdentsStand src (i ∷ names) = IdentStands src i × IdentsStand src names

abbrev pub QualifierStands : List ℕ → Option Ident → Type 0
QualifierStands src (Some i) = IdentStands src i
QualifierStands src None = Unit {0}

abbrev pub NameStands : List ℕ → PlainName Ident → Type 0
NameStands src x = QualifierStands src x.qualifier × IdentStands src x.name × PlaceStands src x.at

abbrev pub ExprStands : List ℕ → PlainExpr Ident Token → Type 0
ExprStands src (literal token at) = LiteralStands src token × PlaceStands src at
ExprStands src (named x at) = NameStands src x × PlaceStands src at
ExprStands src (convert x e at) = NameStands src x × ExprStands src e × PlaceStands src at
ExprStands src (paren e at) = ExprStands src e × PlaceStands src at
ExprStands src (unary op e at) = ExprStands src e × PlaceStands src at
ExprStands src (binary op p e f at) =
    PlaceStands src p × ExprStands src e × ExprStands src f × PlaceStands src at

-- ---- tokens, as the grammar sees them

abbrev pub SymbolStands : List ℕ → Symbol → Type 0
SymbolStands src (t.Ident i) = IdentStands src i
SymbolStands src (t.Text s) = LiteralStands src s.0 × (s.1 ≡ bytes_at src s.0)
SymbolStands src (t.Literal token) = LiteralStands src token
SymbolStands src (t.Semicolon at) = Unit {0}
SymbolStands src k = PlaceStands src (symbol_start k)

abbrev pub SymbolsStand : List ℕ → List Symbol → Type 0
SymbolsStand src [] = Unit {0}
SymbolsStand src (k ∷ ts) = SymbolStands src k × SymbolsStand src ts
