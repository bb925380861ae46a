use Rattle.std.proofs.Common.{◌≡◌, length}
use Rattle.go_syntax.specs.Generics.{tparams_row}
use Rattle.go_syntax.proofs.generics.tparam_row.Given as goal

abbrev pub invariant-loop-after : goal.invariant-loop-after
invariant-loop-after l = tparams_row l.left l.found l.rest ≡ tparams_row l.left l.fn.found l.tokens

abbrev pub decreases-loop-after : goal.decreases-loop-after
decreases-loop-after l = length l.rest
