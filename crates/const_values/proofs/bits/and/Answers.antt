use Rattle.const_values.proofs.Words.{word_and}
use Rattle.const_values.proofs.bits.and.Goals as goal

pub returns : goal.returns
returns c = word_and c.args.left c.args.right c.ranges.left c.ranges.right
