use Rattle.std.proofs.Common.{◌≡◌, ◌+◌, ◌-◌, ◌*◌, ◌≤◌, Ok}
use Rattle.go_expr_syntax.specs.Operands.{climb, level_by, expr_of}
use Rattle.go_expr_syntax.proofs.expressions.+expressions.Given as goal

abbrev pub decreases-convert : goal.decreases-convert
decreases-convert l = 8 * l.left + 4

abbrev pub decreases-expression : goal.decreases-expression
decreases-expression l = 8 * l.left

abbrev pub decreases-in_parens : goal.decreases-in_parens
decreases-in_parens l = 8 * l.left + 4

abbrev pub decreases-named : goal.decreases-named
decreases-named l = 8 * l.left + 5

abbrev pub decreases-operators : goal.decreases-operators
decreases-operators l = 8 * l.left + 4

abbrev pub decreases-signed : goal.decreases-signed
decreases-signed l = 8 * l.left + 4

abbrev pub decreases-unary_expression : goal.decreases-unary_expression
decreases-unary_expression l = 8 * l.left + 6

abbrev pub decreases-up_to_level : goal.decreases-up_to_level
decreases-up_to_level l = 8 * l.left + 7

abbrev pub invariant-operators-loop-op : goal.invariant-operators-loop-op
invariant-operators-loop-op l = climb l.level (expr_of l.left (l.level - 1)) (l.found, l.spare) l.rest ≡ climb l.level (expr_of l.left (l.level - 1)) l.fn.first l.tokens

abbrev pub decreases-operators-loop-op : goal.decreases-operators-loop-op
decreases-operators-loop-op l = l.spare

abbrev pub invariant-up_to_level-loop-reached : goal.invariant-up_to_level-loop-reached
invariant-up_to_level-loop-reached l = (l.reached ≤ l.level) × (level_by l.left (expr_of l.left) l.reached l.tokens ≡ Ok ((l.found, l.rest)))

abbrev pub decreases-up_to_level-loop-reached : goal.decreases-up_to_level-loop-reached
decreases-up_to_level-loop-reached l = l.level - l.reached
