use Rattle.std.proofs.Common.{◌≡◌, ◌≤◌, ◌++◌, length}
use Rattle.interface_opener.specs.Stacked.{stacked}
use Rattle.interface_opener.proofs.StackLemmas.{ids_from}
use Rattle.interface_opener.proofs.tasks.put_elements.Given as goal

abbrev pub invariant-loop-left : goal.invariant-loop-left
invariant-loop-left l = (stacked l.tasks.items ≡ ids_from l.arena.nodes l.holder l.embedded l.left ++ stacked l.fn.tasks.items)
    × (l.left ≤ length l.embedded)

abbrev pub decreases-loop-left : goal.decreases-loop-left
decreases-loop-left l = l.left
