-- What the grammar sees of a source's tokens.
use Rattle.std.specs.Prelude.{ℕ, ◌+◌, ◌-◌, ◌==◌, ◌&&◌, nat_le, List, [], take, drop, length, map, if◌then◌else◌, Option}
use Rattle.std.specs.Prelude.{Some, None, slice_get}
use Rattle.code_tables.specs.declared.words.Keyword.{Keyword}
use Rattle.code_tables.specs.declared.words.Keyword.TheVariants as w
use Rattle.go_lexer.specs.declared.token_kinds.Token.{Token}
use Rattle.go_lexer.specs.declared.token_kinds.TokenKind.{TokenKind}
use Rattle.go_lexer.specs.declared.token_kinds.TokenKind.TheVariants as kind
use Rattle.go_expr_syntax.specs.declared.symbols.Operator.{Operator}
use Rattle.go_expr_syntax.specs.declared.symbols.Operator.TheVariants as o
use Rattle.go_expr_syntax.specs.declared.symbols.Symbol.{Symbol}
use Rattle.go_expr_syntax.specs.declared.symbols.Symbol.TheVariants as t

abbrev pub keyword_symbol : Keyword → ℕ → Symbol
keyword_symbol w.Package at = t.Package at
keyword_symbol w.Import at = t.Import at
keyword_symbol w.Type at = t.Type at
keyword_symbol w.Var at = t.Var at
keyword_symbol w.Const at = t.Const at
keyword_symbol w.Chan at = t.Chan at
keyword_symbol w.Map at = t.Map at
keyword_symbol w.Struct at = t.Struct at
keyword_symbol w.Func at = t.Func at
keyword_symbol w.Interface at = t.Interface at
keyword_symbol _ at = t.Other at

-- the operator of one byte other than the star and the bar, and of two
abbrev pub single_operator : ℕ → Option Operator
single_operator b =
    if b == 43 then Some o.Plus
    else (if b == 45 then Some o.Minus
    else (if b == 94 then Some o.Caret
    else (if b == 47 then Some o.Divide
    else (if b == 37 then Some o.Remainder
    else (if b == 38 then Some o.Ampersand
    else (if b == 60 then Some o.Less
    else (if b == 62 then Some o.Greater
    else (if b == 33 then Some o.Not
    else None))))))))

abbrev pub pair_operator : ℕ → ℕ → Option Operator
pair_operator a b =
    if a == 124 && b == 124 then Some o.Or
    else (if a == 38 && b == 38 then Some o.And
    else (if a == 61 && b == 61 then Some o.Equal
    else (if a == 33 && b == 61 then Some o.NotEqual
    else (if a == 60 && b == 61 then Some o.LessEqual
    else (if a == 62 && b == 61 then Some o.GreaterEqual
    else (if a == 60 && b == 60 then Some o.ShiftLeft
    else (if a == 62 && b == 62 then Some o.ShiftRight
    else (if a == 38 && b == 94 then Some o.Clear
    else None))))))))

abbrev pub operator_symbol : Option Operator → ℕ → Symbol
operator_symbol (Some op) at = t.Operator op at
operator_symbol None at = t.Other at

-- an operator or punctuation of one byte
abbrev pub single_symbol : ℕ → ℕ → Symbol
single_symbol b at =
    if b == 59 then t.Semicolon at
    else (if b == 44 then t.Comma at
    else (if b == 46 then t.Dot at
    else (if b == 61 then t.Assign at
    else (if b == 40 then t.OpenParen at
    else (if b == 41 then t.CloseParen at
    else (if b == 91 then t.OpenBracket at
    else (if b == 93 then t.CloseBracket at
    else (if b == 123 then t.OpenBrace at
    else (if b == 125 then t.CloseBrace at
    else (if b == 42 then t.Star at
    else (if b == 124 then t.Bar at
    else (if b == 126 then t.Tilde at
    else operator_symbol (single_operator b) at))))))))))))

-- of two bytes
abbrev pub pair_symbol : ℕ → Option ℕ → ℕ → Symbol
pair_symbol a (Some b) at = if a == 60 && b == 45 then t.Arrow at else operator_symbol (pair_operator a b) at
pair_symbol a None at = t.Other at

-- of three bytes
abbrev pub triple_symbol : ℕ → ℕ → Symbol
triple_symbol a at = if a == 46 then t.Ellipsis at else t.Other at

-- an operator or punctuation that begins so and has so many bytes
abbrev pub mark_symbol : ℕ → Option ℕ → Option ℕ → ℕ → Symbol
mark_symbol len None second at = t.Other at
mark_symbol len (Some a) second at =
    if len == 1 then single_symbol a at else (if len == 2 then pair_symbol a second at else triple_symbol a at)

-- the bytes between two places, or none where these are no places
abbrev pub text_of : List ℕ → ℕ → ℕ → List ℕ
text_of src start end = if nat_le start end && nat_le end (length src) then take (end - start) (drop start src) else []

abbrev pub symbol_by : List ℕ → Token → TokenKind → ℕ → ℕ → Symbol
symbol_by src token kind.Ident start end = t.Ident (record { start = start; end = end })
symbol_by src token (kind.Word keyword) start end = keyword_symbol keyword start
symbol_by src token kind.Text start end = t.Text (token, text_of src start end)
symbol_by src token kind.Inserted start end = t.Semicolon start
symbol_by src token kind.Mark start end =
    mark_symbol (end - start) (slice_get src start) (slice_get src (start + 1)) start
symbol_by src token _ start end = t.Literal token

-- what the grammar sees of a token
abbrev pub symbol_of : List ℕ → Token → Symbol
symbol_of src token = symbol_by src token token.kind token.start token.end

abbrev pub symbols_of : List ℕ → List Token → List Symbol
symbols_of src tokens = map (symbol_of src) tokens

-- the place at which so many tokens are left: that of the first of them, or the end of the source
abbrev pub place_at : ℕ → Option Token → ℕ
place_at total (Some token) = token.start
place_at total None = total

abbrev pub place_of : List ℕ → List Token → ℕ → ℕ
place_of src tokens left = place_at (length src) (slice_get tokens (length tokens - left))
