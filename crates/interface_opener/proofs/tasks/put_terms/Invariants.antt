use Rattle.std.proofs.Common.{◌≡◌, ◌≤◌, ◌++◌, length, map}
use Rattle.interface_opening.specs.Opening.{several_terms}
use Rattle.interface_opener.specs.Numbered.{by_number}
use Rattle.interface_opener.specs.Stacked.{term_of, stacked}
use Rattle.interface_opener.proofs.StackLemmas.{left_from}
use Rattle.interface_opener.proofs.tasks.put_terms.Given as goal

abbrev pub invariant-loop-left : goal.invariant-loop-left
invariant-loop-left l = (stacked l.tasks.items ≡ left_from l.holder l.several l.terms l.left ++ stacked l.fn.tasks.items)
    × (l.several ≡ several_terms by_number (map term_of l.terms)) × (l.left ≤ length l.terms)

abbrev pub decreases-loop-left : goal.decreases-loop-left
decreases-loop-left l = l.left
