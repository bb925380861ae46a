use Rattle.std.proofs.Common.{◌≡◌, ◌≤◌, ◌++◌, length}
use Rattle.term_tests.specs.Walks.{stack}
use Rattle.term_tests.proofs.MentionLemmas.{aliases_from}
use Rattle.term_tests.proofs.mentioning.put_aliases.Given as goal

abbrev pub invariant-loop-left : goal.invariant-loop-left
invariant-loop-left l = (stack l.tasks.items ≡ aliases_from l.left l.found.keys ++ stack l.fn.tasks.items) × (l.left ≤ length l.found.keys)

abbrev pub decreases-loop-left : goal.decreases-loop-left
decreases-loop-left l = l.left
