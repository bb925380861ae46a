use Rattle.std.proofs.lemmas.Result.{on_ok_weaker}
use Rattle.block_walk.proofs.WalkingLemmas.{goes_say}
use Rattle.block_walk.proofs.walking.mention.Goals as goal

pub returns : goal.returns
returns c = on_ok_weaker c.say.result (λ said nodes own left room. goes_say nodes own c.args.section.now c.say.new.strings c.args.text.now said room left) c.say.ensures
