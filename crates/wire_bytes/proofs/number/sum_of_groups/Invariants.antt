use Rattle.wire_bytes.proofs.UvarintLemmas.{SoFar}
use Rattle.wire_bytes.proofs.number.sum_of_groups.Given as goal

abbrev pub invariant-loop-i : goal.invariant-loop-i
invariant-loop-i l = SoFar l.bytes l.sum l.weight l.i
