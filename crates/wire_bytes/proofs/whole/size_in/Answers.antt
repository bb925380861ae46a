use Rattle.wire_bytes.proofs.WholeLemmas.{size_large}
use Rattle.wire_bytes.proofs.whole.size_in.Goals as goal

pub returns-then-number-clause-large : goal.returns-then-number-clause-large
returns-then-number-clause-large c = size_large c.args.size.now c.loop-byte.byte-index c.loop-byte.number c.loop-byte-test.true c.loop-byte.invariant.0 c.if-number.true
