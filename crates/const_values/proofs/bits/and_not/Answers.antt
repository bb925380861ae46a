use Rattle.const_values.proofs.Words.{word_and_not}
use Rattle.const_values.proofs.bits.and_not.Goals as goal

pub returns : goal.returns
returns c = word_and_not c.args.left c.args.right c.ranges.left c.ranges.right
