-- An expression as a plain tree, a case a variant, and where it begins.
use Rattle.std.proofs.Common.{◌≡◌, ℕ, suc, List, ◌∷◌, refl, sym, ap, ◌∙◌}
use Rattle.go_lexer.specs.declared.token_kinds.Token.{Token}
use Rattle.go_expr_syntax.specs.declared.symbols.Ident.{Ident}
use Rattle.go_expr_syntax.specs.declared.symbols.Operator.{Operator}
use Rattle.go_expr_syntax.specs.declared.symbols.Symbol.{Symbol}
use Rattle.go_expr_syntax.specs.declared.tree.NameExpr.{NameExpr}
use Rattle.go_expr_syntax.specs.declared.tree.Expr.{Expr}
use Rattle.go_expr_syntax.specs.declared.tree.Expr.TheVariants as e
use Rattle.go_expr_syntax.specs.declared.tree.Expr.TheOpen.{Expr-F}
use Rattle.go_expr_syntax.specs.declared.tree.Expr.TheFolds.{fold-roll-Expr}
use Rattle.go_expr_syntax.specs.declared.expressions.Operand.{Operand}
use Rattle.go_expr_syntax.specs.Reading.{symbol_start, start_of}
use Rattle.go_expr_syntax.specs.Names.{own, of_package}
use Rattle.go_expr_syntax.specs.Expressions as ex
use Rattle.go_expr_syntax.specs.Expressions.{IsExpr}
use Rattle.go_expr_syntax.specs.PlainExprs as p
use Rattle.go_expr_syntax.specs.PlainExprs.{PlainExpr, plain_name, plain_expr, expr_step, expr_place, expr_start}

module _ {W L : Type 0} (word : Ident → W) (value : Token → L) where
  pub plain_literal : (token : Token) (at : ℕ) → plain_expr word value (e.Literal token at) ≡ p.literal (value token) at
  plain_literal token at = ap (plain_expr word value) (sym (e.rolls-Literal token at)) ∙ fold-roll-Expr (PlainExpr W L) (expr_step word value) (Expr-F.Literal token at)

  pub plain_constant : (x : NameExpr) (at : ℕ) → plain_expr word value (e.Name x at) ≡ p.named (plain_name word x) at
  plain_constant x at = ap (plain_expr word value) (sym (e.rolls-Name x at)) ∙ fold-roll-Expr (PlainExpr W L) (expr_step word value) (Expr-F.Name x at)

  pub plain_convert : (x : NameExpr) (y : Expr) (at : ℕ) → plain_expr word value (e.Convert x y at) ≡ p.convert (plain_name word x) (plain_expr word value y) at
  plain_convert x y at = ap (plain_expr word value) (sym (e.rolls-Convert x y at)) ∙ fold-roll-Expr (PlainExpr W L) (expr_step word value) (Expr-F.Convert x y at)

  pub plain_paren : (y : Expr) (at : ℕ) → plain_expr word value (e.Paren y at) ≡ p.paren (plain_expr word value y) at
  plain_paren y at = ap (plain_expr word value) (sym (e.rolls-Paren y at)) ∙ fold-roll-Expr (PlainExpr W L) (expr_step word value) (Expr-F.Paren y at)

  pub plain_unary : (op : Operator) (y : Expr) (at : ℕ) → plain_expr word value (e.Unary op y at) ≡ p.unary op (plain_expr word value y) at
  plain_unary op y at = ap (plain_expr word value) (sym (e.rolls-Unary op y at)) ∙ fold-roll-Expr (PlainExpr W L) (expr_step word value) (Expr-F.Unary op y at)

  pub plain_binary : (op : Operator) (place : ℕ) (y z : Expr) (at : ℕ) → plain_expr word value (e.Binary op place y z at) ≡ p.binary op place (plain_expr word value y) (plain_expr word value z) at
  plain_binary op place y z at = ap (plain_expr word value) (sym (e.rolls-Binary op place y z at)) ∙ fold-roll-Expr (PlainExpr W L) (expr_step word value) (Expr-F.Binary op place y z at)

-- where an expression begins is what its tree says, and its first token's place
pub starts_at : (l n : ℕ) (ts : List Symbol) (x : Operand) (rest : List Symbol) → IsExpr l n ts x rest → x.at ≡ start_of ts
starts_at l n ts x rest (ex.a_literal token r) = refl
starts_at l n ts x rest (ex.a_text s r) = refl
starts_at l n ts x rest (ex.a_name us z r (own i r')) = refl
starts_at l n ts x rest (ex.a_name us z r (of_package q d i r')) = refl
starts_at l n ts x rest (ex.a_conversion m us z at vs y c r (own i r') w) = refl
starts_at l n ts x rest (ex.a_conversion m us z at vs y c r (of_package q d i r') w) = refl
starts_at l n ts x rest (ex.in_parens m at us y c r w) = refl
starts_at l n ts x rest (ex.after_sign m op at us y r s w) = refl
starts_at l n ts x rest (ex.alone i m us z r w) = starts_at i m us z r w
starts_at l n ts x rest (ex.joined i m j us z k op vs y r a s o b) = starts_at (suc i) m us z (k ∷ vs) a

pub begins_at : (l n : ℕ) (ts : List Symbol) (x : Operand) (rest : List Symbol) → IsExpr l n ts x rest → expr_start x.expr ≡ x.at
begins_at l n ts x rest (ex.a_literal token r) = ap expr_place (plain_literal (λ i. i) (λ v. v) token token.start)
begins_at l n ts x rest (ex.a_text s r) = ap expr_place (plain_literal (λ i. i) (λ v. v) s.0 s.0.start)
begins_at l n ts x rest (ex.a_name us z r w) = ap expr_place (plain_constant (λ i. i) (λ v. v) z z.at)
begins_at l n ts x rest (ex.a_conversion m us z at vs y c r w v) = ap expr_place (plain_convert (λ i. i) (λ v. v) z y.expr z.at)
begins_at l n ts x rest (ex.in_parens m at us y c r w) = ap expr_place (plain_paren (λ i. i) (λ v. v) y.expr at)
begins_at l n ts x rest (ex.after_sign m op at us y r s w) = ap expr_place (plain_unary (λ i. i) (λ v. v) op y.expr at)
begins_at l n ts x rest (ex.alone i m us z r w) = begins_at i m us z r w
begins_at l n ts x rest (ex.joined i m j us z k op vs y r a s o b) = ap expr_place (plain_binary (λ i. i) (λ v. v) op (symbol_start k) z.expr y.expr z.at)

pub first_at : (l n : ℕ) (ts : List Symbol) (x : Operand) (rest : List Symbol) → IsExpr l n ts x rest → expr_start x.expr ≡ start_of ts
first_at l n ts x rest w = begins_at l n ts x rest w ∙ starts_at l n ts x rest w
