use Rattle.wire_bytes.proofs.SpelledSizes.{SizeSoFar}
use Rattle.wire_bytes.proofs.whole.spell_size.Given as goal

abbrev pub invariant-loop-rest : goal.invariant-loop-rest
invariant-loop-rest l = SizeSoFar l.number l.rest l.start l.room

abbrev pub decreases-loop-rest : goal.decreases-loop-rest
decreases-loop-rest l = l.rest
