-- What is spelled by tokens that stand in a source stands there.
use Rattle.std.proofs.Common.{◌≡◌, ◌≢◌, ◌<◌, ◌≤◌, ℕ, suc, true, List, ◌∷◌, length, Some, sym, subst, arith}
use Rattle.go_lexer.specs.declared.token_kinds.Token.{Token}
use Rattle.go_lexer.specs.declared.token_kinds.TokenKind.{TokenKind}
use Rattle.go_lexer.specs.declared.token_kinds.TokenKind.TheVariants as kind
use Rattle.go_lexer.proofs.TokenTexts.{some_bytes}
use Rattle.go_expr_syntax.specs.declared.symbols.Ident.{Ident}
use Rattle.go_expr_syntax.specs.declared.symbols.Operator.{Operator}
use Rattle.go_expr_syntax.specs.declared.symbols.Symbol.{Symbol}
use Rattle.go_expr_syntax.specs.declared.symbols.Symbol.TheVariants as t
use Rattle.go_expr_syntax.specs.declared.tree.NameExpr.{NameExpr}
use Rattle.go_expr_syntax.specs.declared.expressions.Operand.{Operand}
use Rattle.go_expr_syntax.specs.Reading.{symbol_start}
use Rattle.go_expr_syntax.specs.Names as n
use Rattle.go_expr_syntax.specs.Names.{IsTypeName, IsNames, IsTag}
use Rattle.go_expr_syntax.specs.Expressions as ex
use Rattle.go_expr_syntax.specs.Expressions.{between_of, IsExpr}
use Rattle.go_expr_syntax.specs.PlainExprs.{plain_name, spans_of_expr}
use Rattle.go_expr_syntax.specs.StandingExprs.{is_literal, ident_token, IdentStands, LiteralStands, PlaceStands, IdentsStand, NameStands, ExprStands, SymbolStands, SymbolsStand}
use Rattle.go_expr_syntax.proofs.PlainLaws.{plain_literal, plain_constant, plain_convert, plain_paren, plain_unary, plain_binary}

-- ---- places

pub ident_place : (src : List ℕ) (i : Ident) → IdentStands src i → PlaceStands src i.start
ident_place src i h = let some : i.start < i.end = some_bytes src (ident_token i) h (λ e. absurd cc) in let inside : i.end ≤ length src = h.inside in omega (arith, some, inside)

not_inserted : (k : TokenKind) → is_literal k ≡ true → k ≢ kind.Inserted
not_inserted k e same = let f : is_literal kind.Inserted ≡ true = subst (λ j. is_literal j ≡ true) same e in absurd cc

pub literal_place : (src : List ℕ) (token : Token) → LiteralStands src token → PlaceStands src token.start
literal_place src token h = let some : token.start < token.end = some_bytes src token h.0 (not_inserted token.kind h.1) in let inside : token.end ≤ length src = h.0.inside in omega (arith, some, inside)

between_place : (src : List ℕ) (k : Symbol) (op : Operator) → between_of k ≡ Some op → SymbolStands src k → PlaceStands src (symbol_start k)
between_place src (t.Star at) op e h = h
between_place src (t.Bar at) op e h = h
between_place src (t.Operator o at) op e h = h
between_place src (t.Ident i) op e h = ident_place src i h
between_place src (t.Text s) op e h = literal_place src s.0 h.0
between_place src (t.Literal token) op e h = literal_place src token h
between_place src (t.Semicolon at) op e h = absurd cc
between_place src (t.Comma at) op e h = h
between_place src (t.Dot at) op e h = h
between_place src (t.Assign at) op e h = h
between_place src (t.OpenParen at) op e h = h
between_place src (t.CloseParen at) op e h = h
between_place src (t.OpenBracket at) op e h = h
between_place src (t.CloseBracket at) op e h = h
between_place src (t.OpenBrace at) op e h = h
between_place src (t.CloseBrace at) op e h = h
between_place src (t.Ellipsis at) op e h = h
between_place src (t.Arrow at) op e h = h
between_place src (t.Package at) op e h = h
between_place src (t.Import at) op e h = h
between_place src (t.Type at) op e h = h
between_place src (t.Var at) op e h = h
between_place src (t.Const at) op e h = h
between_place src (t.Chan at) op e h = h
between_place src (t.Map at) op e h = h
between_place src (t.Struct at) op e h = h
between_place src (t.Func at) op e h = h
between_place src (t.Interface at) op e h = h
between_place src (t.Tilde at) op e h = h
between_place src (t.Other at) op e h = h

-- ---- names

pub name_stands : (src : List ℕ) (ts : List Symbol) (x : NameExpr) (rest : List Symbol) → IsTypeName ts x rest → SymbolsStand src ts → NameStands src (plain_name (λ i. i) x) × SymbolsStand src rest
name_stands src ts x rest (n.own i r) h = ((tt, h.0, ident_place src i h.0), h.1)
name_stands src ts x rest (n.of_package q d i r) h = ((h.0, h.1.1.0, ident_place src q h.0), h.1.1.1)

pub names_stand : (src : List ℕ) (ts : List Symbol) (names : List Ident) (rest : List Symbol) → IsNames ts names rest → SymbolsStand src ts → IdentsStand src names × SymbolsStand src rest
names_stand src ts names rest (n.one i r) h = ((h.0, tt), h.1)
names_stand src ts names rest (n.more i c us js r w) h = let o = names_stand src us js r w h.1.1 in ((h.0, o.0), o.1)

pub tag_stands : (src : List ℕ) (ts : List Symbol) (tag : List ℕ) (rest : List Symbol) → IsTag ts tag rest → SymbolsStand src ts → SymbolsStand src rest
tag_stands src ts tag rest (n.none r) h = h
tag_stands src ts tag rest (n.some s r) h = h.1

-- ---- expressions

-- its tree stands, it begins at a byte, and so does what is left
record Standing (src : List ℕ) (x : Operand) (rest : List Symbol) : Type 0 where
  tree : ExprStands src (spans_of_expr x.expr)
  place : PlaceStands src x.at
  left : SymbolsStand src rest

stands_in : (src : List ℕ) (l m : ℕ) (ts : List Symbol) (x : Operand) (rest : List Symbol) → IsExpr l m ts x rest → SymbolsStand src ts → Standing src x rest
stands_in src l m ts x rest (ex.a_literal token r) h =
    record { tree = subst (ExprStands src) (sym (plain_literal (λ i. i) (λ v. v) token token.start)) (h.0, literal_place src token h.0); place = literal_place src token h.0; left = h.1 }
stands_in src l m ts x rest (ex.a_text s r) h =
    record { tree = subst (ExprStands src) (sym (plain_literal (λ i. i) (λ v. v) s.0 s.0.start)) (h.0.0, literal_place src s.0 h.0.0); place = literal_place src s.0 h.0.0; left = h.1 }
stands_in src l m ts x rest (ex.a_name us z r w) h =
    let o = name_stands src us z r w h in
    record { tree = subst (ExprStands src) (sym (plain_constant (λ i. i) (λ v. v) z z.at)) (o.0, o.0.2); place = o.0.2; left = o.1 }
stands_in src l m ts x rest (ex.a_conversion j us z at vs y c r w v) h =
    let o = name_stands src us z (t.OpenParen at ∷ vs) w h in
    let q = stands_in src 5 j vs y (t.CloseParen c ∷ r) v o.1.1 in
    record { tree = subst (ExprStands src) (sym (plain_convert (λ i. i) (λ v'. v') z y.expr z.at)) (o.0, q.tree, o.0.2); place = o.0.2; left = q.left.1 }
stands_in src l m ts x rest (ex.in_parens j at us y c r w) h =
    let q = stands_in src 5 j us y (t.CloseParen c ∷ r) w h.1 in
    record { tree = subst (ExprStands src) (sym (plain_paren (λ i. i) (λ v. v) y.expr at)) (q.tree, h.0); place = h.0; left = q.left.1 }
stands_in src l m ts x rest (ex.after_sign j op at us y r s w) h =
    let q = stands_in src 0 j us y r w h.1 in
    record { tree = subst (ExprStands src) (sym (plain_unary (λ i. i) (λ v. v) op y.expr at)) (q.tree, h.0); place = h.0; left = q.left }
stands_in src l m ts x rest (ex.alone i j us z r w) h = stands_in src i j us z r w h
stands_in src l m ts x rest (ex.joined i j k us z s op vs y r a b o w) h =
    let p = stands_in src (suc i) j us z (s ∷ vs) a h in
    let q = stands_in src i k vs y r w p.left.1 in
    record {
      tree = subst (ExprStands src) (sym (plain_binary (λ i'. i') (λ v. v) op (symbol_start s) z.expr y.expr z.at)) (between_place src s op b p.left.0, p.tree, q.tree, p.place);
      place = p.place;
      left = q.left;
    }

pub expr_stands : (src : List ℕ) (l m : ℕ) (ts : List Symbol) (x : Operand) (rest : List Symbol) → IsExpr l m ts x rest → SymbolsStand src ts → ExprStands src (spans_of_expr x.expr) × SymbolsStand src rest
expr_stands src l m ts x rest w h = let o = stands_in src l m ts x rest w h in (o.tree, o.left)
