use Rattle.std.proofs.Common.{◌≡◌, ◌≤◌, ◌++◌, length}
use Rattle.whole_terms.specs.Looks.{stack}
use Rattle.whole_terms.proofs.PutLemmas.{visits_from, no_visits_left, visit_put}
use Rattle.whole_terms.proofs.opening.put_visits.Given as goal

abbrev pub invariant-loop-left : goal.invariant-loop-left
invariant-loop-left l = (stack l.tasks.items ≡ visits_from l.left l.ids ++ stack l.fn.tasks.items) × (l.left ≤ length l.ids)

abbrev pub decreases-loop-left : goal.decreases-loop-left
decreases-loop-left l = l.left
