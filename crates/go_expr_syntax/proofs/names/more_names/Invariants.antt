use Rattle.std.proofs.Common.{◌≡◌, length}
use Rattle.go_expr_syntax.specs.Names.{names_at, names_more}
use Rattle.go_expr_syntax.proofs.Turns.{with_front}
use Rattle.go_expr_syntax.proofs.names.more_names.Given as goal

abbrev pub invariant-loop-names : goal.invariant-loop-names
invariant-loop-names l = with_front l.names (names_at l.rest) ≡ names_more names_at l.fn.first l.tokens

abbrev pub decreases-loop-names : goal.decreases-loop-names
decreases-loop-names l = length l.rest
