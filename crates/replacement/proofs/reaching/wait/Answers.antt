use Rattle.std.proofs.Common.{refl}
use Rattle.replacement.proofs.SearchLemmas.{inserted}
use Rattle.replacement.proofs.reaching.wait.Goals as goal

pub returns : goal.returns
returns c = inserted refl _ _ c.args.id c.in_ok-insert.ensures.keys
