use Rattle.std.proofs.Common.{◌≡◌, ◌++◌, length}
use Rattle.string_literals.specs.Values.{text_after}
use Rattle.string_literals.proofs.literals.interpreted.Given as goal

abbrev pub invariant-loop-rest : goal.invariant-loop-rest
invariant-loop-rest l = l.value.items ++ text_after 0 l.rest ≡ text_after 0 l.inside

abbrev pub decreases-loop-rest : goal.decreases-loop-rest
decreases-loop-rest l = length l.rest
