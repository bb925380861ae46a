use Rattle.std.proofs.Common.{◌≡◌, length}
use Rattle.go_syntax.specs.Constants.{exprs_at}
use Rattle.go_expr_syntax.proofs.Turns.{with_front}
use Rattle.go_syntax.proofs.constants.expression_list.Given as goal

abbrev pub invariant-loop-found : goal.invariant-loop-found
invariant-loop-found l = with_front l.found (exprs_at l.left l.rest) ≡ exprs_at l.left l.tokens

abbrev pub decreases-loop-found : goal.decreases-loop-found
decreases-loop-found l = length l.rest
