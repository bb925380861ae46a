-- Expressions as plain trees, for definitions by recursion. They are generic in what stands for an identifier and for
-- a literal: their spans, or what these spell in a source.
use Rattle.std.specs.Prelude.{ℕ, Option, Some, None}
use Rattle.go_lexer.specs.declared.token_kinds.Token.{Token}
use Rattle.go_expr_syntax.specs.declared.symbols.Ident.{Ident}
use Rattle.go_expr_syntax.specs.declared.symbols.Operator.{Operator}
use Rattle.go_expr_syntax.specs.declared.tree.NameExpr.{NameExpr}
use Rattle.go_expr_syntax.specs.declared.tree.Expr.{Expr}
use Rattle.go_expr_syntax.specs.declared.tree.Expr.TheOpen.{Expr-F}
use Rattle.go_expr_syntax.specs.declared.tree.Expr.TheFolds.{fold-Expr}

-- the name of a type or a constant, of this package or of another
pub record PlainName (W : Type 0) : Type 0 where
  pub qualifier : Option W
  pub name : W
  pub at : ℕ

-- an operator between two operands stands at a place of its own
pub data PlainExpr (W L : Type 0) : Type 0 where
  literal : L → ℕ → PlainExpr W L
  named : PlainName W → ℕ → PlainExpr W L
  convert : PlainName W → PlainExpr W L → ℕ → PlainExpr W L
  paren : PlainExpr W L → ℕ → PlainExpr W L
  unary : Operator → PlainExpr W L → ℕ → PlainExpr W L
  binary : Operator → ℕ → PlainExpr W L → PlainExpr W L → ℕ → PlainExpr W L

-- where an expression begins
abbrev pub expr_place : {W L : Type 0} → PlainExpr W L → ℕ
expr_place (literal x at) = at
expr_place (named x at) = at
expr_place (convert x e at) = at
expr_place (paren e at) = at
expr_place (unary op e at) = at
expr_place (binary op p e f at) = at

abbrev pub qualifier_of : {W : Type 0} → (Ident → W) → Option Ident → Option W
qualifier_of word (Some i) = Some (word i)
qualifier_of word None = None

abbrev pub plain_name : {W : Type 0} → (Ident → W) → NameExpr → PlainName W
plain_name word x = record { qualifier = qualifier_of word x.«package»; name = word x.name; at = x.at }

-- one level of an expression, where what stands inside is plain
abbrev pub expr_step : {W L : Type 0} → (Ident → W) → (Token → L) → Expr-F (PlainExpr W L) → PlainExpr W L
expr_step word value (Expr-F.Literal token at) = literal (value token) at
expr_step word value (Expr-F.Name x at) = named (plain_name word x) at
expr_step word value (Expr-F.Convert x e at) = convert (plain_name word x) e at
expr_step word value (Expr-F.Paren e at) = paren e at
expr_step word value (Expr-F.Unary op e at) = unary op e at
expr_step word value (Expr-F.Binary op p e f at) = binary op p e f at

-- an expression as a plain tree
abbrev pub plain_expr : {W L : Type 0} → (Ident → W) → (Token → L) → Expr → PlainExpr W L
plain_expr {W} {L} word value x = fold-Expr (PlainExpr W L) (expr_step word value) x

-- with the spans of its identifiers and its literals' tokens
abbrev pub spans_of_expr : Expr → PlainExpr Ident Token
spans_of_expr x = plain_expr (λ i. i) (λ token. token) x

-- where an expression begins
abbrev pub expr_start : Expr → ℕ
expr_start x = expr_place (spans_of_expr x)
