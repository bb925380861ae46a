-- Calls, of which constants have none here: Go's grammar of them, and what a call stands in.
use Rattle.std.specs.Prelude.{◌≡◌, ℕ, Bool, true, false, List, ◌∷◌, ◌++◌}
use Rattle.go_lexer.specs.declared.token_kinds.Token.{Token}
use Rattle.go_expr_syntax.specs.declared.symbols.Symbol.{Symbol}
use Rattle.go_expr_syntax.specs.declared.symbols.Symbol.TheVariants as t
use Rattle.go_expr_syntax.specs.declared.expressions.Operand.{Operand}
use Rattle.go_expr_syntax.specs.Reading.{starts}
use Rattle.go_expr_syntax.specs.Expressions.{IsExpr}

-- a sign, or another operator
abbrev pub is_operator : Symbol → Bool
is_operator (t.Operator op at) = true
is_operator _ = false

-- [ "..." ] [ "," ] ")"
pub data IsArgumentsEnd : List Symbol → List Symbol → Type 0 where
  closes : (c : ℕ) (rest : List Symbol) → IsArgumentsEnd (t.CloseParen c ∷ rest) rest
  spreads : (e c : ℕ) (rest : List Symbol) → IsArgumentsEnd (t.Ellipsis e ∷ t.CloseParen c ∷ rest) rest
  spreads_late : (e s c : ℕ) (rest : List Symbol)
      → IsArgumentsEnd (t.Ellipsis e ∷ t.Comma s ∷ t.CloseParen c ∷ rest) rest

-- Arguments = [ Expression { "," Expression } [ "..." ] [ "," ] ] ")"
pub data IsArguments : List Symbol → List Symbol → Type 0 where
  no_argument : (c : ℕ) (rest : List Symbol) → IsArguments (t.CloseParen c ∷ rest) rest
  last_argument : (n : ℕ) (ts : List Symbol) (x : Operand) (us rest : List Symbol) → IsExpr 5 n ts x us
      → IsArgumentsEnd us rest → IsArguments ts rest
  more_arguments : (n s : ℕ) (ts : List Symbol) (x : Operand) (us rest : List Symbol)
      → IsExpr 5 n ts x (t.Comma s ∷ us) → IsArguments us rest → IsArguments ts rest

-- Call = PrimaryExpr "(" Arguments, with the place of its parenthesis: an expression without operators, and no sign
-- before it, is a primary one
pub data IsCall : ℕ → List Symbol → List Symbol → Type 0 where
  a_call : (n at : ℕ) (ts : List Symbol) (x : Operand) (us rest : List Symbol) → starts is_operator ts ≡ false
      → IsExpr 0 n ts x (t.OpenParen at ∷ us) → IsArguments us rest → IsCall at ts rest

-- Something of F in which a call, whose parenthesis stands at this place, is an operand: it stands where a literal may.
pub record Called {X : Type 0} (F : List Symbol → X → List Symbol → Type 0) (at : ℕ) (ts : List Symbol) (x : X)
    (rest : List Symbol) : Type 0 where
  pub before : List Symbol
  pub call : List Symbol
  pub after : List Symbol
  pub literal : Token
  pub split : ts ≡ before ++ call
  pub calls : IsCall at call after
  pub stands : F (before ++ t.Literal literal ∷ after) x rest
