-- The grammar of constant expressions, a production a case. The second number is that of the nodes on a longest
-- path of the tree.
use Rattle.std.specs.Prelude.{◌≡◌, ℕ, suc, max, Bool, true, false, List, ◌∷◌, Option, Some, None}
use Rattle.go_lexer.specs.declared.token_kinds.Token.{Token}
use Rattle.go_expr_syntax.specs.Reading.{Quoted, symbol_start}
use Rattle.go_expr_syntax.specs.declared.symbols.Operator.{Operator}
use Rattle.go_expr_syntax.specs.declared.symbols.Operator.TheVariants as o
use Rattle.go_expr_syntax.specs.declared.symbols.Symbol.{Symbol}
use Rattle.go_expr_syntax.specs.declared.symbols.Symbol.TheVariants as t
use Rattle.go_expr_syntax.specs.declared.tree.NameExpr.{NameExpr}
use Rattle.go_expr_syntax.specs.declared.tree.Expr.TheVariants as e
use Rattle.go_expr_syntax.specs.declared.expressions.Operand.{Operand}
use Rattle.go_expr_syntax.specs.Names.{IsTypeName}

-- ---- operators

-- The levels of the binary operators, from the one that binds strongest to the one that binds least.
abbrev pub level : Operator → ℕ
level o.Times = 1
level o.Divide = 1
level o.Remainder = 1
level o.ShiftLeft = 1
level o.ShiftRight = 1
level o.Ampersand = 1
level o.Clear = 1
level o.Plus = 2
level o.Minus = 2
level o.Bar = 2
level o.Caret = 2
level o.Equal = 3
level o.NotEqual = 3
level o.Less = 3
level o.LessEqual = 3
level o.Greater = 3
level o.GreaterEqual = 3
level o.And = 4
level o.Or = 5
level o.Not = 0

abbrev pub is_unary : Operator → Bool
is_unary o.Plus = true
is_unary o.Minus = true
is_unary o.Caret = true
is_unary o.Not = true
is_unary _ = false

-- the operator that a token is between two operands
abbrev pub between_of : Symbol → Option Operator
between_of (t.Star at) = Some o.Times
between_of (t.Bar at) = Some o.Bar
between_of (t.Operator op at) = Some op
between_of _ = None

-- ---- trees, each with the place where it begins

abbrev pub literal : Token → Operand
literal token = record { expr = e.Literal token token.start; at = token.start }

abbrev pub constant : NameExpr → Operand
constant x = record { expr = e.Name x x.at; at = x.at }

abbrev pub conversion : NameExpr → Operand → Operand
conversion x y = record { expr = e.Convert x y.expr x.at; at = x.at }

abbrev pub enclosed : ℕ → Operand → Operand
enclosed at y = record { expr = e.Paren y.expr at; at = at }

abbrev pub unary : Operator → ℕ → Operand → Operand
unary op at y = record { expr = e.Unary op y.expr at; at = at }

-- with the place of the operator
abbrev pub binary : Operator → ℕ → Operand → Operand → Operand
binary op at x y = record { expr = e.Binary op at x.expr y.expr x.at; at = x.at }

-- ---- the grammar

-- An expression with the binary operators of the first levels, up to this one. With none of them it is a unary
-- expression, with those of level 5 any.
pub data IsExpr : ℕ → ℕ → List Symbol → Operand → List Symbol → Type 0 where
  a_literal : (token : Token) (rest : List Symbol) → IsExpr 0 1 (t.Literal token ∷ rest) (literal token) rest
  a_text : (s : Quoted) (rest : List Symbol) → IsExpr 0 1 (t.Text s ∷ rest) (literal s.0) rest
  a_name : (ts : List Symbol) (x : NameExpr) (rest : List Symbol) → IsTypeName ts x rest
      → IsExpr 0 1 ts (constant x) rest
  a_conversion : (n : ℕ) (ts : List Symbol) (x : NameExpr) (at : ℕ) (us : List Symbol) (y : Operand) (c : ℕ)
      (rest : List Symbol)
      → IsTypeName ts x (t.OpenParen at ∷ us) → IsExpr 5 n us y (t.CloseParen c ∷ rest)
      → IsExpr 0 (suc n) ts (conversion x y) rest
  in_parens : (n at : ℕ) (ts : List Symbol) (y : Operand) (c : ℕ) (rest : List Symbol)
      → IsExpr 5 n ts y (t.CloseParen c ∷ rest)
      → IsExpr 0 (suc n) (t.OpenParen at ∷ ts) (enclosed at y) rest
  after_sign : (n : ℕ) (op : Operator) (at : ℕ) (ts : List Symbol) (y : Operand) (rest : List Symbol)
      → is_unary op ≡ true → IsExpr 0 n ts y rest
      → IsExpr 0 (suc n) (t.Operator op at ∷ ts) (unary op at y) rest
  alone : (l n : ℕ) (ts : List Symbol) (x : Operand) (rest : List Symbol) → IsExpr l n ts x rest
      → IsExpr (suc l) n ts x rest
  -- to the left: what stands before an operator may have operators of its level, what stands behind it may not
  joined : (l m n : ℕ) (ts : List Symbol) (x : Operand) (k : Symbol) (op : Operator) (us : List Symbol) (y : Operand)
      (rest : List Symbol)
      → IsExpr (suc l) m ts x (k ∷ us) → between_of k ≡ Some op → level op ≡ suc l → IsExpr l n us y rest
      → IsExpr (suc l) (suc (max m n)) ts (binary op (symbol_start k) x y) rest
