-- Constant expressions, as they are read. With a tree goes how many more nodes its longest path may have.
use Rattle.std.specs.Prelude.{ℕ, zero, suc, ◌==◌, min, Bool, true, false, if◌then◌else◌, List, [], ◌∷◌, length, Option}
use Rattle.std.specs.Prelude.{Some, None, Result, Ok, Err}
use Rattle.go_expr_syntax.specs.declared.symbols.Operator.{Operator}
use Rattle.go_expr_syntax.specs.declared.symbols.Symbol.{Symbol}
use Rattle.go_expr_syntax.specs.declared.symbols.Symbol.TheVariants as t
use Rattle.go_expr_syntax.specs.declared.symbols.Ident.{Ident}
use Rattle.go_expr_syntax.specs.declared.faults.Fault.{Fault}
use Rattle.go_expr_syntax.specs.declared.faults.Fault.TheVariants.{Call}
use Rattle.go_expr_syntax.specs.declared.tree.NameExpr.{NameExpr}
use Rattle.go_expr_syntax.specs.declared.expressions.Operand.{Operand}
use Rattle.go_expr_syntax.specs.Reading.{Reply, start_of, from_start, ◌>>=◌, unexpected, too_deep, past, peek}
use Rattle.go_expr_syntax.specs.Reading.{is_close_paren}
use Rattle.go_expr_syntax.specs.Names.{dotted}
use Rattle.go_expr_syntax.specs.Expressions.{level, is_unary, between_of, literal, constant, conversion, enclosed}
use Rattle.go_expr_syntax.specs.Expressions.{unary}
use Rattle.go_expr_syntax.specs.Expressions.{binary}

abbrev pub Sized : Type 0
Sized = Operand × ℕ

abbrev pub Reader : Type 0
Reader = List Symbol → Reply Sized

-- ---- operands, where n nodes are left for what stands inside

-- the next token shows that the parenthesis at this place is a call
abbrev pub called : {X : Type 0} → ℕ → List Symbol → Result X Fault
called at ts = Err (Call (length ts) at)

-- an operand behind which no parenthesis may stand
abbrev pub uncalled : Sized → List Symbol → Reply Sized
uncalled x (t.OpenParen at ∷ ts) = called at (t.OpenParen at ∷ ts)
uncalled x ts = Ok (x, ts)

-- a second argument follows, or the dots of a list
abbrev pub goes_on : Symbol → Bool
goes_on (t.Comma at) = true
goes_on (t.Ellipsis at) = true
goes_on _ = false

abbrev pub converted_end : NameExpr → Sized → List Symbol → Reply Sized
converted_end x y ts = past is_close_paren ts >>= λ rest. uncalled (conversion x y.0, y.1) rest

abbrev pub converted : NameExpr → ℕ → Sized → List Symbol → Reply Sized
converted x at y ts = peek goes_on ts (called at ts) (converted_end x y ts)

abbrev pub argument : Reader → NameExpr → ℕ → List Symbol → Reply Sized
argument inner x at ts = inner ts >>= λ y. converted x at y.0 y.1

abbrev pub convert_by : Reader → NameExpr → ℕ → List Symbol → Reply Sized
convert_by inner x at ts = peek is_close_paren ts (called at ts) (argument inner x at ts)

abbrev pub named_by : ℕ → Reader → NameExpr → List Symbol → Reply Sized
named_by n inner x (t.OpenParen at ∷ ts) = convert_by inner x at ts
named_by n inner x ts = Ok ((constant x, n), ts)

abbrev pub ident_by : ℕ → Reader → Ident → List Symbol → Reply Sized
ident_by n inner i ts = dotted i ts >>= λ x. named_by n inner x.0 x.1

abbrev pub enclosed_end : ℕ → Sized → List Symbol → Reply Sized
enclosed_end at y ts = past is_close_paren ts >>= λ rest. uncalled (enclosed at y.0, y.1) rest

abbrev pub enclosed_by : Reader → ℕ → List Symbol → Reply Sized
enclosed_by inner at ts = inner ts >>= λ y. enclosed_end at y.0 y.1

abbrev pub signed : Reader → Operator → ℕ → List Symbol → Reply Sized
signed first op at ts = first ts >>= λ y. Ok ((unary op at y.0.0, y.0.1), y.1)

abbrev pub signed_by : Bool → Reader → Operator → ℕ → List Symbol → Reply Sized
signed_by true first op at ts = signed first op at ts
signed_by false first op at ts = unexpected (t.Operator op at ∷ ts)

-- first reads unary expressions, and inner all of them
abbrev pub operand_by : ℕ → Reader → Reader → List Symbol → Reply Sized
operand_by n first inner (t.Literal token ∷ ts) = uncalled (literal token, n) ts
operand_by n first inner (t.Text s ∷ ts) = uncalled (literal s.0, n) ts
operand_by n first inner (t.Ident i ∷ ts) = ident_by n inner i ts
operand_by n first inner (t.OpenParen at ∷ ts) = enclosed_by inner at ts
operand_by n first inner (t.Operator op at ∷ ts) = signed_by (is_unary op) first op at ts
operand_by n first inner ts = unexpected ts

-- ---- operators

abbrev pub operator_if : ℕ → Option Operator → Symbol → List Symbol → Reply Operator
operator_if l None k ts = unexpected (k ∷ ts)
operator_if l (Some op) k ts = if level op == l then Ok (op, ts) else unexpected (k ∷ ts)

-- a binary operator of this level
abbrev pub operator_at : ℕ → List Symbol → Reply Operator
operator_at l [] = unexpected []
operator_at l (k ∷ ts) = operator_if l (between_of k) k ts

-- q where an operator was there, and else the other
abbrev pub pick : {X : Type 0} → Reply Operator → (Operator → List Symbol → Reply X) → Reply X → Reply X
pick (Ok z) q other = q z.0 z.1
pick (Err f) q other = other

-- what stands behind an operator, where so many nodes may be added above what stands before it
abbrev pub climb_on : ℕ → (Sized → List Symbol → Reply Sized) → Reader → Operand → List Symbol → Operator
    → List Symbol → Reply Sized
climb_on zero more inner x ts op us = too_deep ts
climb_on (suc spare) more inner x ts op us =
    inner us >>= λ y. more (binary op (start_of ts) x y.0.0, min spare y.0.1) y.1

abbrev pub climb_by : ℕ → (Sized → List Symbol → Reply Sized) → Reader → Sized → List Symbol → Reply Sized
climb_by l more inner x ts = pick (operator_at l ts) (climb_on x.1 more inner x.0 ts) (Ok (x, ts))

unfoldable pub climb_of : ℕ → ℕ → Reader → Sized → List Symbol → Reply Sized
climb_of zero l inner x ts = too_deep ts
climb_of (suc turns) l inner x ts = climb_by l (climb_of turns l inner) inner x ts

-- The operators of a level, after the first operand. Each takes a node that may be added.
abbrev pub climb : ℕ → Reader → Sized → List Symbol → Reply Sized
climb l inner x ts = climb_of (suc x.1) l inner x ts

-- ---- expressions

-- with what reads those inside, where n nodes are left for them
abbrev pub level_by : ℕ → (ℕ → Reader) → ℕ → Reader
level_by n inner zero ts = operand_by n (inner 0) (inner 5) ts
level_by n inner (suc l) ts = level_by n inner l ts >>= λ x. climb (suc l) (inner l) x.0 x.1

-- whether an expression begins with this token
abbrev pub begins_expr : Symbol → Bool
begins_expr (t.Literal token) = true
begins_expr (t.Text s) = true
begins_expr (t.Ident i) = true
begins_expr (t.OpenParen at) = true
begins_expr (t.Operator op at) = is_unary op
begins_expr _ = false

abbrev pub no_expr : List Symbol → Reply Sized
no_expr ts = peek begins_expr ts (too_deep ts) (unexpected ts)

-- an expression of a level, with up to n nodes on a path
unfoldable pub expr_of : ℕ → ℕ → Reader
expr_of zero l ts = no_expr ts
expr_of (suc n) l ts = level_by n (expr_of n) l ts

abbrev pub expr_at : ℕ → Reader
expr_at n = expr_of n 5

-- one that stands in no other, nor in a type
abbrev pub outer_expr : ℕ → Reader
outer_expr n ts = from_start (expr_at n) ts
