use Rattle.std.proofs.Common.{◌≡◌, ◌≤◌, ◌++◌, length}
use Rattle.identity_walk.specs.Walking.{due_of}
use Rattle.identity_walk.proofs.StackLemmas.{left_from}
use Rattle.identity_walk.proofs.visits.push_visits.Given as goal

abbrev pub invariant-loop-left : goal.invariant-loop-left
invariant-loop-left l = (due_of l.stack.items ≡ left_from l.depth l.pairs l.left ++ due_of l.fn.stack.items) × (l.left ≤ length l.pairs)

abbrev pub decreases-loop-left : goal.decreases-loop-left
decreases-loop-left l = l.left
