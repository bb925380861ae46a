use Rattle.std.proofs.Common.{sym}
use Rattle.go_expr_syntax.proofs.expressions.outer_expression.Goals as goal

pub returns : goal.returns
returns c = rw (sym c.start.ensures) (c.told_at.ensures _ c.expression.ensures)
