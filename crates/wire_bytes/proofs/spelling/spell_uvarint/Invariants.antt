use Rattle.wire_bytes.proofs.Spelled.{SpelledSoFar}
use Rattle.wire_bytes.proofs.spelling.spell_uvarint.Given as goal

abbrev pub invariant-loop-rest : goal.invariant-loop-rest
invariant-loop-rest l = SpelledSoFar l.number l.rest l.len l.room

abbrev pub decreases-loop-rest : goal.decreases-loop-rest
decreases-loop-rest l = l.rest
