use Rattle.std.proofs.Common.{rules}
use Rattle.term_tests.proofs.WalkLemmas.{once_put}
use Rattle.term_tests.proofs.walking.leave.Goals as goal

pub returns : goal.returns
returns c = record { tasks = search rules; entered = search rules; left = once_put c.args.walk.now.left.keys c.insert.new.self.keys c.args.q c.in_ok-insert.ensures.keys }
