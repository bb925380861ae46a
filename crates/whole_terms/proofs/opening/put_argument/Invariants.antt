use Rattle.std.proofs.Common.{◌≡◌, ◌++◌, drop}
use Rattle.whole_terms.specs.Looks.{stack, argument_task}
use Rattle.whole_terms.proofs.opening.put_argument.Given as goal

abbrev pub invariant-loop-k : goal.invariant-loop-k
invariant-loop-k l = (argument_task l.tparams l.args l.q ≡ argument_task (drop l.k l.tparams) (drop l.k l.args) l.q) × (stack l.tasks.items ≡ stack l.fn.tasks.items)
