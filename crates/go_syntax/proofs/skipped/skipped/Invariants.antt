use Rattle.std.proofs.Common.{◌≡◌, [], reverse, length}
use Rattle.go_syntax.specs.Skipped.{skip}
use Rattle.go_syntax.proofs.skipped.skipped.Given as goal

abbrev pub invariant-loop-rest : goal.invariant-loop-rest
invariant-loop-rest l = skip l.line (reverse l.unclosed) l.rest ≡ skip l.line [] l.tokens

abbrev pub decreases-loop-rest : goal.decreases-loop-rest
decreases-loop-rest l = length l.rest
