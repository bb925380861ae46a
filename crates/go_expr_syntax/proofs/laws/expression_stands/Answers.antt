use Rattle.go_expr_syntax.proofs.StandingLaws.{expr_stands}
use Rattle.go_expr_syntax.proofs.laws.expression_stands.Goals as goal

pub returns : goal.returns
returns c = expr_stands
