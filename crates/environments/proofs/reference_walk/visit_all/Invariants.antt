use Rattle.std.proofs.Common.{◌≡◌, ◌++◌, vec_len}
use Rattle.environments.specs.ReferenceTasks.{visiting}
use Rattle.environments.proofs.reference_walk.visit_all.Given as goal

abbrev pub invariant-loop-id : goal.invariant-loop-id
invariant-loop-id l = l.tasks.items ++ visiting l.types.items ≡ l.fn.tasks.items ++ visiting l.fn.types.items

abbrev pub decreases-loop-id : goal.decreases-loop-id
decreases-loop-id l = vec_len l.types
