-- Declarations of constants: the grammar, and how they are read.
use Rattle.std.specs.Prelude.{ℕ, suc, max, List, [], ◌∷◌, Option, Some, None, Ok}
use Rattle.go_expr_syntax.specs.declared.symbols.Symbol.{Symbol}
use Rattle.go_expr_syntax.specs.declared.symbols.Symbol.TheVariants as t
use Rattle.go_expr_syntax.specs.declared.symbols.Ident.{Ident}
use Rattle.go_expr_syntax.specs.declared.tree.Expr.{Expr}
use Rattle.go_type_syntax.specs.declared.tree.TypeExpr.{TypeExpr}
use Rattle.go_syntax.specs.declared.tree.Top.{Top}
use Rattle.go_syntax.specs.declared.tree.Top.TheVariants as top
use Rattle.go_syntax.specs.declared.constants.Written.{Written}
use Rattle.go_expr_syntax.specs.declared.expressions.Operand.{Operand}
use Rattle.go_expr_syntax.specs.Reading.{Reply, ◌>>=◌, past, choose, peek, is_comma, is_assign, begins_type, steps}
use Rattle.go_expr_syntax.specs.Names.{IsNames, ident_at, names_at, names_more}
use Rattle.go_expr_syntax.specs.Expressions.{IsExpr}
use Rattle.go_expr_syntax.specs.Operands.{outer_expr}
use Rattle.go_type_syntax.specs.Grammar.{IsType}
use Rattle.go_type_syntax.specs.Types.{type_at}

-- ---- as they are written

abbrev pub written : List Ident → Option TypeExpr → List Expr → Written
written names ty values = record { names = names; ty = ty; values = values }

-- ExpressionList = Expression { "," Expression }
pub data IsExprs : ℕ → List Symbol → List Expr → List Symbol → Type 0 where
  one_expr : (n : ℕ) (ts : List Symbol) (x : Operand) (rest : List Symbol) → IsExpr 5 n ts x rest
      → IsExprs n ts (x.expr ∷ []) rest
  more_exprs : (m n c : ℕ) (ts : List Symbol) (x : Operand) (us : List Symbol) (xs : List Expr) (rest : List Symbol)
      → IsExpr 5 m ts x (t.Comma c ∷ us) → IsExprs n us xs rest
      → IsExprs (max m n) ts (x.expr ∷ xs) rest

-- ConstSpec = IdentifierList [ [ Type ] "=" ExpressionList ]
pub data IsConstSpec : ℕ → List Symbol → Written → List Symbol → Type 0 where
  as_before : (ts : List Symbol) (i : Ident) (names : List Ident) (rest : List Symbol) → IsNames ts (i ∷ names) rest
      → IsConstSpec 0 ts (written (i ∷ names) None []) rest
  untyped : (n a : ℕ) (ts : List Symbol) (i : Ident) (names : List Ident) (us : List Symbol) (values : List Expr)
      (rest : List Symbol) → IsNames ts (i ∷ names) (t.Assign a ∷ us) → IsExprs n us values rest
      → IsConstSpec n ts (written (i ∷ names) None values) rest
  typed : (m n a : ℕ) (ts : List Symbol) (i : Ident) (names : List Ident) (us : List Symbol) (ty : TypeExpr)
      (vs : List Symbol) (values : List Expr) (rest : List Symbol)
      → IsNames ts (i ∷ names) us → IsType m us ty (t.Assign a ∷ vs) → IsExprs n vs values rest
      → IsConstSpec (max m n) ts (written (i ∷ names) (Some ty) values) rest

-- ---- what they declare

-- the number of the specification whose type and values one has: its own, unless it has no values, and then that of
-- the last before it that has some
abbrev pub source_of : List Expr → ℕ → ℕ → ℕ
source_of [] iota last = last
source_of (x ∷ xs) iota last = iota

abbrev pub constants : Written → ℕ → ℕ → Top
constants w iota source =
    top.Constant (record { names = w.names; ty = w.ty; values = w.values; iota = iota; source = source })

-- the specifications of a group, counted from iota on
abbrev pub counted : ℕ → ℕ → List Written → List Top
counted iota last [] = []
counted iota last (w ∷ ws) =
    constants w iota (source_of w.values iota last) ∷ counted (suc iota) (source_of w.values iota last) ws

-- ---- reading

abbrev pub exprs_more : (List Symbol → Reply (List Expr)) → Expr → List Symbol → Reply (List Expr)
exprs_more more x us = more us >>= λ xs. Ok (x ∷ xs.0, xs.1)

abbrev pub exprs_end : (List Symbol → Reply (List Expr)) → Expr → List Symbol → Reply (List Expr)
exprs_end more x us = choose (past is_comma us) (exprs_more more x) (Ok (x ∷ [], us))

abbrev pub exprs_step : ℕ → (List Symbol → Reply (List Expr)) → List Symbol → Reply (List Expr)
exprs_step n more ts = outer_expr n ts >>= λ x. exprs_end more (x.0.0).expr x.1

abbrev pub exprs_at : ℕ → List Symbol → Reply (List Expr)
exprs_at n ts = steps (exprs_step n) ts

abbrev pub const_values : ℕ → List Ident → Option TypeExpr → List Symbol → Reply Written
const_values n names ty ts = exprs_at n ts >>= λ xs. Ok (written names ty xs.0, xs.1)

abbrev pub const_assign : ℕ → List Ident → TypeExpr → List Symbol → Reply Written
const_assign n names ty ts = past is_assign ts >>= λ us. const_values n names (Some ty) us

abbrev pub const_typed : ℕ → List Ident → List Symbol → Reply Written
const_typed n names ts = type_at n ts >>= λ ty. const_assign n names ty.0.0 ty.1

abbrev pub const_empty : List Ident → List Symbol → Reply Written
const_empty names ts = Ok (written names None [], ts)

-- after the names
abbrev pub const_rest : ℕ → List Ident → List Symbol → Reply Written
const_rest n names ts =
    choose (past is_assign ts) (const_values n names None)
    (peek begins_type ts (const_typed n names ts) (const_empty names ts))

abbrev pub const_more : ℕ → Ident → List Symbol → Reply Written
const_more n i ts = names_more names_at i ts >>= λ names. const_rest n names.0 names.1

abbrev pub const_first : ℕ → Ident → List Symbol → Reply Written
const_first n i ts = choose (past is_comma ts) (const_more n i) (const_rest n (i ∷ []) ts)

abbrev pub const_spec_at : ℕ → List Symbol → Reply Written
const_spec_at n ts = ident_at ts >>= λ i. const_first n i.0 i.1
