use Rattle.const_values.proofs.Words.{word_xor}
use Rattle.const_values.proofs.bits.xor.Goals as goal

pub returns : goal.returns
returns c = word_xor c.args.left c.args.right c.ranges.left c.ranges.right
