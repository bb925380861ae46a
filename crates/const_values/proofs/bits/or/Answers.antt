use Rattle.const_values.proofs.Words.{word_or}
use Rattle.const_values.proofs.bits.or.Goals as goal

pub returns : goal.returns
returns c = word_or c.args.left c.args.right c.ranges.left c.ranges.right
