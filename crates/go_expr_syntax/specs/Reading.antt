-- Reading from the front of a list of tokens: what is read and the tokens after it, or a fault.
use Rattle.std.specs.Prelude.{◌≡◌, ℕ, zero, suc, min, Bool, true, false, List, [], ◌∷◌, ◌++◌, length, if◌then◌else◌}
use Rattle.std.specs.Prelude.{Result, Ok, Err}
use Rattle.std.specs.Borrow.{Bor}
use Rattle.go_expr_syntax.specs.declared.symbols.Symbol.{Symbol}
use Rattle.go_expr_syntax.specs.declared.symbols.Symbol.TheVariants as t
use Rattle.go_lexer.specs.declared.token_kinds.Token.{Token}
use Rattle.go_expr_syntax.specs.declared.faults.Fault.{Fault}
use Rattle.go_expr_syntax.specs.declared.faults.Fault.TheVariants.{Unexpected, Deep, DotImport, Call}
use Rattle.go_expr_syntax.specs.declared.faults.Stop.{Stop}
use Rattle.go_expr_syntax.specs.declared.faults.Stop.TheVariants as stop

-- a string literal: its token, and its text with the quotes
abbrev pub Quoted : Type 0
Quoted = Token × List ℕ

abbrev pub Reply : Type 0 → Type 0
Reply X = Result (X × List Symbol) Fault

infixl 10 ◌>>=◌
abbrev pub ◌>>=◌ : {A B : Type 0} → Result A Fault → (A → Result B Fault) → Result B Fault
(Ok x) >>= f = f x
(Err e) >>= f = Err e

-- the next token begins nothing here
abbrev pub unexpected : {X : Type 0} → List Symbol → Result X Fault
unexpected ts = Err (Unexpected (length ts))

-- the first byte of a token
abbrev pub symbol_start : Symbol → ℕ
symbol_start (t.Ident i) = i.start
symbol_start (t.Text s) = s.0.start
symbol_start (t.Semicolon at) = at
symbol_start (t.Comma at) = at
symbol_start (t.Dot at) = at
symbol_start (t.Assign at) = at
symbol_start (t.OpenParen at) = at
symbol_start (t.CloseParen at) = at
symbol_start (t.OpenBracket at) = at
symbol_start (t.CloseBracket at) = at
symbol_start (t.OpenBrace at) = at
symbol_start (t.CloseBrace at) = at
symbol_start (t.Star at) = at
symbol_start (t.Arrow at) = at
symbol_start (t.Package at) = at
symbol_start (t.Import at) = at
symbol_start (t.Type at) = at
symbol_start (t.Var at) = at
symbol_start (t.Chan at) = at
symbol_start (t.Map at) = at
symbol_start (t.Struct at) = at
symbol_start (t.Func at) = at
symbol_start (t.Interface at) = at
symbol_start (t.Ellipsis at) = at
symbol_start (t.Tilde at) = at
symbol_start (t.Bar at) = at
symbol_start (t.Operator op at) = at
symbol_start (t.Literal token) = token.start
symbol_start (t.Const at) = at
symbol_start (t.Other at) = at

-- the place of the first token
abbrev pub start_of : List Symbol → ℕ
start_of [] = 0
start_of (k ∷ ts) = symbol_start k

-- with the next token a path is too long
abbrev pub too_deep : {X : Type 0} → List Symbol → Result X Fault
too_deep ts = Err (Deep (length ts) (start_of ts))

-- the same reply, where a path that is too long is told at this place
abbrev pub told_at : {X : Type 0} → ℕ → Reply X → Reply X
told_at at (Ok z) = Ok z
told_at at (Err (Unexpected k)) = Err (Unexpected k)
told_at at (Err (Deep k began)) = Err (Deep k at)
told_at at (Err (DotImport k)) = Err (DotImport k)
told_at at (Err (Call k c)) = Err (Call k c)

-- What is a type or an expression of its own: a path that is too long in it is told at its first token, so the
-- outermost one has the last word.
abbrev pub from_start : {X : Type 0} → (List Symbol → Reply X) → List Symbol → Reply X
from_start p ts = told_at (start_of ts) (p ts)

-- one token of a kind
abbrev pub past : (Symbol → Bool) → List Symbol → Result (List Symbol) Fault
past is [] = unexpected []
past is (k ∷ ts) = if is k then Ok ts else unexpected (k ∷ ts)

abbrev pub is_semicolon : Symbol → Bool
is_semicolon (t.Semicolon at) = true
is_semicolon _ = false

abbrev pub is_comma : Symbol → Bool
is_comma (t.Comma at) = true
is_comma _ = false

abbrev pub is_arrow : Symbol → Bool
is_arrow (t.Arrow at) = true
is_arrow _ = false

abbrev pub is_dot : Symbol → Bool
is_dot (t.Dot at) = true
is_dot _ = false

abbrev pub is_open_paren : Symbol → Bool
is_open_paren (t.OpenParen at) = true
is_open_paren _ = false

abbrev pub is_assign : Symbol → Bool
is_assign (t.Assign at) = true
is_assign _ = false

abbrev pub is_import : Symbol → Bool
is_import (t.Import at) = true
is_import _ = false

abbrev pub is_var : Symbol → Bool
is_var (t.Var at) = true
is_var _ = false

abbrev pub is_type : Symbol → Bool
is_type (t.Type at) = true
is_type _ = false

abbrev pub is_const : Symbol → Bool
is_const (t.Const at) = true
is_const _ = false

abbrev pub is_close_paren : Symbol → Bool
is_close_paren (t.CloseParen at) = true
is_close_paren _ = false

abbrev pub is_open_bracket : Symbol → Bool
is_open_bracket (t.OpenBracket at) = true
is_open_bracket _ = false

abbrev pub is_close_bracket : Symbol → Bool
is_close_bracket (t.CloseBracket at) = true
is_close_bracket _ = false

abbrev pub is_open_brace : Symbol → Bool
is_open_brace (t.OpenBrace at) = true
is_open_brace _ = false

abbrev pub is_close_brace : Symbol → Bool
is_close_brace (t.CloseBrace at) = true
is_close_brace _ = false

abbrev pub is_chan : Symbol → Bool
is_chan (t.Chan at) = true
is_chan _ = false

abbrev pub is_func : Symbol → Bool
is_func (t.Func at) = true
is_func _ = false

abbrev pub is_star : Symbol → Bool
is_star (t.Star at) = true
is_star _ = false

abbrev pub is_ellipsis : Symbol → Bool
is_ellipsis (t.Ellipsis at) = true
is_ellipsis _ = false

abbrev pub is_tilde : Symbol → Bool
is_tilde (t.Tilde at) = true
is_tilde _ = false

abbrev pub is_bar : Symbol → Bool
is_bar (t.Bar at) = true
is_bar _ = false

abbrev pub is_interface : Symbol → Bool
is_interface (t.Interface at) = true
is_interface _ = false

abbrev pub is_package : Symbol → Bool
is_package (t.Package at) = true
is_package _ = false

abbrev pub is_ident : Symbol → Bool
is_ident (t.Ident i) = true
is_ident _ = false

-- whether a type begins with this token
abbrev pub begins_type : Symbol → Bool
begins_type (t.Ident i) = true
begins_type (t.OpenParen at) = true
begins_type (t.Star at) = true
begins_type (t.OpenBracket at) = true
begins_type (t.Map at) = true
begins_type (t.Chan at) = true
begins_type (t.Arrow at) = true
begins_type (t.Struct at) = true
begins_type (t.Func at) = true
begins_type (t.Interface at) = true
begins_type _ = false

-- whether this token shows that the identifier before it is an embedded type
abbrev pub shows_embedded : Symbol → Bool
shows_embedded (t.Dot at) = true
shows_embedded (t.Semicolon at) = true
shows_embedded (t.CloseBrace at) = true
shows_embedded (t.Text s) = true
shows_embedded _ = false

-- whether this token shows that the identifier before it is an embedded type
abbrev pub shows_elem : Symbol → Bool
shows_elem (t.Dot at) = true
shows_elem (t.OpenBracket at) = true
shows_elem (t.Bar at) = true
shows_elem (t.Semicolon at) = true
shows_elem (t.CloseBrace at) = true
shows_elem _ = false

-- whether this token shows that the identifiers before it are types
abbrev pub shows_types : Bool → Symbol → Bool
shows_types v (t.CloseParen at) = true
shows_types true (t.Ellipsis at) = true
shows_types v k = begins_type k

-- whether this token shows that the identifier before it is a type
abbrev pub shows_type : Symbol → Bool
shows_type (t.CloseParen at) = true
shows_type (t.Dot at) = true
shows_type _ = false

-- whether this token goes on with the length of an array after an identifier, or ends it
abbrev pub shows_length : Symbol → Bool
shows_length (t.CloseBracket at) = true
shows_length (t.Dot at) = true
shows_length (t.OpenParen at) = true
shows_length (t.Star at) = true
shows_length (t.Bar at) = true
shows_length (t.Operator op at) = true
shows_length _ = false

-- q where the token was there, and else the other
abbrev pub choose : {X : Type 0} → Result (List Symbol) Fault → (List Symbol → Reply X) → Reply X → Reply X
choose (Ok us) q other = q us
choose (Err f) q other = other

-- whether such a token comes next
abbrev pub starts : (Symbol → Bool) → List Symbol → Bool
starts is [] = false
starts is (k ∷ ts) = is k

abbrev pub peek : {X : Type 0} → (Symbol → Bool) → List Symbol → Reply X → Reply X → Reply X
peek is ts found other = if starts is ts then found else other

-- ---- steps that may come again and again

-- One step, with what reads the rest, does it as often as there are tokens, and once more.
unfoldable pub steps_of : {Y : Type 0} → ℕ → ((List Symbol → Reply Y) → List Symbol → Reply Y) → List Symbol → Reply Y
steps_of zero step ts = unexpected ts
steps_of (suc n) step ts = step (steps_of n step) ts

abbrev pub steps : {Y : Type 0} → ((List Symbol → Reply Y) → List Symbol → Reply Y) → List Symbol → Reply Y
steps step ts = steps_of (suc (length ts)) step ts

-- How items are listed: with such a token between each two, and perhaps after the last, up to the one that closes.
-- A final item has to be the last.
pub record ListForm (X Y : Type 0) : Type 0 where
  pub sep : Symbol → Bool
  pub closes : Symbol → Bool
  pub final : X → Bool
  pub nil : Y
  pub cons : X → Y → Y

abbrev pub series_more : {X Y : Type 0} → ListForm X Y → (List Symbol → Reply Y) → X → List Symbol → Reply Y
series_more S more x vs = more vs >>= λ ys. Ok (S.cons x ys.0, ys.1)

abbrev pub series_close : {X Y : Type 0} → ListForm X Y → X → List Symbol → Reply Y
series_close S x vs = past S.closes vs >>= λ rest. Ok (S.cons x S.nil, rest)

abbrev pub series_next : {X Y : Type 0} → ListForm X Y → (List Symbol → Reply Y) → X → List Symbol → Reply Y
series_next S more x vs = if S.final x then series_close S x vs else series_more S more x vs

-- what follows an item
abbrev pub series_end : {X Y : Type 0} → ListForm X Y → (List Symbol → Reply Y) → X → List Symbol → Reply Y
series_end S more x us =
    choose (past S.closes us) (λ rest. Ok (S.cons x S.nil, rest)) (past S.sep us >>= λ vs. series_next S more x vs)

abbrev pub series_item : {X Y : Type 0} → ListForm X Y → (List Symbol → Reply X) → (List Symbol → Reply Y)
    → List Symbol → Reply Y
series_item S one more ts = one ts >>= λ x. series_end S more x.0 x.1

abbrev pub series_by : {X Y : Type 0} → ListForm X Y → (List Symbol → Reply X) → (List Symbol → Reply Y) → List Symbol
    → Reply Y
series_by S one more ts = choose (past S.closes ts) (λ rest. Ok (S.nil, rest)) (series_item S one more ts)

abbrev pub series : {X Y : Type 0} → ListForm X Y → (List Symbol → Reply X) → List Symbol → Reply Y
series S one ts = steps (series_by S one) ts

abbrev pub rows : {X : Type 0} → (Symbol → Bool) → ListForm X (List X)
rows closes = record { sep = is_semicolon; closes = closes; final = λ x. false; nil = []; cons = λ x xs. x ∷ xs }

-- Items with a semicolon between each two, and perhaps after the last, up to the token that closes.
abbrev pub row : {X : Type 0} → (Symbol → Bool) → (List Symbol → Reply X) → List Symbol → Reply (List X)
row closes one ts = series (rows closes) one ts

-- an item, and more of them as long as such a token comes next
abbrev pub chain_more : {X Y : Type 0} → (X → Y → Y) → (List Symbol → Reply Y) → X → List Symbol → Reply Y
chain_more cons more x vs = more vs >>= λ ys. Ok (cons x ys.0, ys.1)

abbrev pub chain_end : {X Y : Type 0} → (Symbol → Bool) → (X → Y) → (X → Y → Y) → (List Symbol → Reply Y) → X
    → List Symbol → Reply Y
chain_end sep single cons more x us = choose (past sep us) (chain_more cons more x) (Ok (single x, us))

abbrev pub chain_by : {X Y : Type 0} → (Symbol → Bool) → (X → Y) → (X → Y → Y) → (List Symbol → Reply X)
    → (List Symbol → Reply Y) → List Symbol → Reply Y
chain_by sep single cons one more ts = one ts >>= λ x. chain_end sep single cons more x.0 x.1

abbrev pub chain : {X Y : Type 0} → (Symbol → Bool) → (X → Y) → (X → Y → Y) → (List Symbol → Reply X) → List Symbol
    → Reply Y
chain sep single cons one ts = steps (chain_by sep single cons one) ts

-- ---- places, and how much deeper a tree might be

-- what is read, with the place of its first token
abbrev pub placed : {X : Type 0} → (List Symbol → Reply X) → List Symbol → Reply (X × ℕ)
placed p ts = p ts >>= λ x. Ok ((x.0, start_of ts), x.1)

-- a tree, and how many more nodes its longest path might have
abbrev pub Fit : Type 0 → Type 0
Fit X = X × ℕ

-- items with trees, where n nodes are left for each
abbrev pub fitting : {X Y : Type 0} → ℕ → (Symbol → Bool) → (Symbol → Bool) → (X → Bool) → (X → Y) → (X → ℕ)
    → ListForm X (Fit (List Y))
fitting n sep closes final tree fit =
    record {
      sep = sep;
      closes = closes;
      final = final;
      nil = ([], n);
      cons = λ x ys. (
        tree x
            ∷ ys.0,
        min (fit x) ys.1,
      );
    }

-- such a list behind another
abbrev pub with_fit : {Y : Type 0} → Fit (List Y) → Reply (Fit (List Y)) → Reply (Fit (List Y))
with_fit front read = read >>= λ ys. Ok ((front.0 ++ ys.0.0, min front.1 ys.0.1), ys.1)

abbrev pub fits : {X : Type 0} → ℕ → (Symbol → Bool) → (Symbol → Bool) → ListForm (Fit X) (Fit (List X))
fits n sep closes = fitting n sep closes (λ x. false) (λ x. x.0) (λ x. x.1)

-- What a call answers is what reading gives, unless memory ran out.
abbrev pub Fails : {Y : Type 0} → Stop → Result Y Fault → Type 0
Fails stop.OutOfMemory read = Unit {0}
Fails (stop.At f) read = read ≡ Err f

abbrev pub Gives : {X Y : Type 0} → (X → Y) → Result X Stop → Result Y Fault → Type 0
Gives view (Ok x) read = read ≡ Ok (view x)
Gives view (Err s) read = Fails s read

-- The same of a call that also answers the tokens left over.
abbrev pub ParsesAs : {X : Type 0} → Result (X × Bor (List Symbol)) Stop → Reply X → Type 0
ParsesAs result read = Gives (λ x. (x.0, x.1.now)) result read

-- What a call that takes no memory answers is what reading gives.
abbrev pub Exactly : {X Y : Type 0} → (X → Y) → Result X Fault → Result Y Fault → Type 0
Exactly view (Ok x) read = read ≡ Ok (view x)
Exactly view (Err f) read = read ≡ Err f
