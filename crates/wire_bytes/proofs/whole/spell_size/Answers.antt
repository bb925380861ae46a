use Rattle.std.proofs.Common.{arith}
use Rattle.wire_bytes.proofs.SpelledSizes.{ends}
use Rattle.wire_bytes.proofs.whole.spell_size.Goals as goal

pub returns-clause-start : goal.returns-clause-start
returns-clause-start c = (c.loop-rest.invariant.some, (ends c.args.number c.loop-rest.rest c.loop-rest.start c.loop-rest.room c.loop-rest.invariant (omega arith)).2)
