use Rattle.std.proofs.Common.{◌≡◌, ◌≤◌, ◌++◌, length}
use Rattle.whole_terms.specs.Looks.{stack}
use Rattle.whole_terms.proofs.PutLemmas.{arguments_from, no_arguments_left}
use Rattle.whole_terms.proofs.opening.put_arguments.Given as goal

abbrev pub invariant-loop-left : goal.invariant-loop-left
invariant-loop-left l = (stack l.tasks.items ≡ arguments_from l.tparams l.args l.left l.looks.keys ++ stack l.fn.tasks.items) × (l.left ≤ length l.looks.keys)

abbrev pub decreases-loop-left : goal.decreases-loop-left
decreases-loop-left l = l.left
