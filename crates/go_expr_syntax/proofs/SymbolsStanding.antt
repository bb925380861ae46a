-- The tokens of a source stand in it, as the grammar sees them.
use Rattle.std.proofs.Common.{◌≡◌, ◌≢◌, ◌<◌, ◌≤◌, ◌-◌, ◌+◌, ◌==◌, ◌&&◌, ℕ, Bool, true, false, if◌then◌else◌, List, [], ◌∷◌, length, Option, Some, None, slice_get, refl, subst, arith}
use Rattle.std.proofs.lemmas.Bool.{le-leb}
use Rattle.std.specs.List.{All}
use Rattle.std.proofs.lemmas.List.Elements.{All-head, All-tail}
use Rattle.code_tables.specs.declared.words.Keyword.{Keyword}
use Rattle.code_tables.specs.declared.words.Keyword.TheVariants as w
use Rattle.go_lexer.specs.TokenTexts.{IsTokenOf, bytes_at}
use Rattle.go_lexer.specs.declared.token_kinds.Token.{Token}
use Rattle.go_lexer.specs.declared.token_kinds.TokenKind.{TokenKind}
use Rattle.go_lexer.specs.declared.token_kinds.TokenKind.TheVariants as kind
use Rattle.go_lexer.proofs.TokenTexts.{some_bytes}
use Rattle.go_expr_syntax.specs.declared.symbols.Operator.{Operator}
use Rattle.go_expr_syntax.specs.declared.symbols.Symbol.{Symbol}
use Rattle.go_expr_syntax.specs.StandingExprs.{PlaceStands, SymbolStands, SymbolsStand}
use Rattle.go_expr_syntax.specs.TokenView.{keyword_symbol, single_operator, operator_symbol, single_symbol, pair_operator, pair_symbol, mark_symbol, text_of, symbol_by, symbols_of}

either_stands : (src : List ℕ) (b : Bool) (k j : Symbol) → SymbolStands src k → SymbolStands src j → SymbolStands src (if b then k else j)
either_stands src true k j h g = h
either_stands src false k j h g = g

operator_stands : (src : List ℕ) (o : Option Operator) (at : ℕ) → PlaceStands src at → SymbolStands src (operator_symbol o at)
operator_stands src (Some op) at h = h
operator_stands src None at h = h

single_stands : (src : List ℕ) (b at : ℕ) → PlaceStands src at → SymbolStands src (single_symbol b at)
single_stands src b at h =
    either_stands src (b == 59) _ _ tt
    (either_stands src (b == 44) _ _ h
    (either_stands src (b == 46) _ _ h
    (either_stands src (b == 61) _ _ h
    (either_stands src (b == 40) _ _ h
    (either_stands src (b == 41) _ _ h
    (either_stands src (b == 91) _ _ h
    (either_stands src (b == 93) _ _ h
    (either_stands src (b == 123) _ _ h
    (either_stands src (b == 125) _ _ h
    (either_stands src (b == 42) _ _ h
    (either_stands src (b == 124) _ _ h
    (either_stands src (b == 126) _ _ h
    (operator_stands src (single_operator b) at h)))))))))))))

pair_stands : (src : List ℕ) (a : ℕ) (o : Option ℕ) (at : ℕ) → PlaceStands src at → SymbolStands src (pair_symbol a o at)
pair_stands src a (Some b) at h = either_stands src (a == 60 && b == 45) _ _ h (operator_stands src (pair_operator a b) at h)
pair_stands src a None at h = h

mark_stands : (src : List ℕ) (len : ℕ) (first second : Option ℕ) (at : ℕ) → PlaceStands src at → SymbolStands src (mark_symbol len first second at)
mark_stands src len None second at h = h
mark_stands src len (Some a) second at h =
    either_stands src (len == 1) _ _ (single_stands src a at h)
    (either_stands src (len == 2) _ _ (pair_stands src a second at h) (either_stands src (a == 46) _ _ h h))

keyword_stands : (src : List ℕ) (k : Keyword) (at : ℕ) → PlaceStands src at → SymbolStands src (keyword_symbol k at)
keyword_stands src w.Package at h = h
keyword_stands src w.Import at h = h
keyword_stands src w.Type at h = h
keyword_stands src w.Var at h = h
keyword_stands src w.Const at h = h
keyword_stands src w.Chan at h = h
keyword_stands src w.Map at h = h
keyword_stands src w.Struct at h = h
keyword_stands src w.Func at h = h
keyword_stands src w.Interface at h = h
keyword_stands src _ at h = h

text_stands : (src : List ℕ) (token : Token) → IsTokenOf src token → text_of src token.start token.end ≡ bytes_at src token
text_stands src token h = rw (le-leb token.start token.end h.rises, le-leb token.end (length src) h.inside) refl

place_stands : (src : List ℕ) (token : Token) → IsTokenOf src token → token.kind ≢ kind.Inserted → PlaceStands src token.start
place_stands src token h e = let some : token.start < token.end = some_bytes src token h e in let inside : token.end ≤ length src = h.inside in omega (arith, some, inside)

kind_stands : (src : List ℕ) (token : Token) (k : TokenKind) → token.kind ≡ k → IsTokenOf src token → SymbolStands src (symbol_by src token k token.start token.end)
kind_stands src token kind.Ident e h = subst (λ (j : TokenKind). IsTokenOf src (record { kind = j; start = token.start; end = token.end })) e h
kind_stands src token (kind.Word keyword) e h = keyword_stands src keyword token.start (place_stands src token h (λ q. absurd cc))
kind_stands src token kind.Text e h = ((h, rw e refl), text_stands src token h)
kind_stands src token kind.Inserted e h = tt
kind_stands src token kind.Mark e h = mark_stands src (token.end - token.start) (slice_get src token.start) (slice_get src (token.start + 1)) token.start (place_stands src token h (λ q. absurd cc))
kind_stands src token kind.Whole e h = (h, rw e refl)
kind_stands src token kind.Floating e h = (h, rw e refl)
kind_stands src token kind.Imaginary e h = (h, rw e refl)
kind_stands src token kind.Rune e h = (h, rw e refl)

pub symbols_stand : (src : List ℕ) (tokens : List Token) → All (IsTokenOf src) tokens → SymbolsStand src (symbols_of src tokens)
symbols_stand src [] h = tt
symbols_stand src (token ∷ tokens) h = (kind_stands src token token.kind refl (All-head (IsTokenOf src) token tokens h), symbols_stand src tokens (All-tail (IsTokenOf src) token tokens h))
