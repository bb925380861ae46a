use Rattle.std.proofs.Common.{◌≡◌, length}
use Rattle.go_syntax.specs.Files.{imports_at}
use Rattle.go_expr_syntax.proofs.Turns.{with_front}
use Rattle.go_syntax.proofs.files.imports.Given as goal

abbrev pub invariant-loop-found : goal.invariant-loop-found
invariant-loop-found l = with_front l.found (imports_at l.rest) ≡ imports_at l.tokens

abbrev pub decreases-loop-found : goal.decreases-loop-found
decreases-loop-found l = length l.rest
