use Rattle.std.proofs.Common.{arith}
use Rattle.wire_bytes.proofs.Spelled.{goes_on}
use Rattle.wire_bytes.proofs.spelling.spell_uvarint.Goals as goal

pub loop-rest-preserved : goal.loop-rest-preserved
loop-rest-preserved c = goes_on c.args.number c.loop-rest.rest c.loop-rest.len c.loop-rest.room c.loop-rest.invariant (omega arith) c.loop-rest-test.true (omega arith)
