use Rattle.std.proofs.Common.{◌≡◌, length}
use Rattle.go_syntax.specs.Files.{tops_at}
use Rattle.go_expr_syntax.proofs.Turns.{with_front}
use Rattle.go_syntax.proofs.files.tops.Given as goal

abbrev pub invariant-loop-found : goal.invariant-loop-found
invariant-loop-found l = with_front l.found (tops_at l.left l.rest) ≡ tops_at l.left l.tokens

abbrev pub decreases-loop-found : goal.decreases-loop-found
decreases-loop-found l = length l.rest
