use Rattle.std.proofs.Common.{◌≡◌}
use Rattle.cycle_rules.specs.Containment.{count_unmarked}
use Rattle.cycle_rules.proofs.containment.contained_in.Given as goal

abbrev pub invariant-loop-search : goal.invariant-loop-search
invariant-loop-search l = l.search.shapes ≡ l.fn.shapes

abbrev pub decreases-loop-search : goal.decreases-loop-search
decreases-loop-search l = count_unmarked l.search.marks
