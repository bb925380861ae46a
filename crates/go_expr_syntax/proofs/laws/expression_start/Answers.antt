use Rattle.go_expr_syntax.proofs.PlainLaws.{first_at}
use Rattle.go_expr_syntax.proofs.laws.expression_start.Goals as goal

pub returns : goal.returns
returns c = first_at
