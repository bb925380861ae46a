use Rattle.std.proofs.Common.{rules}
use Rattle.replacement.specs.Expansion.{capped}
use Rattle.whole_terms.proofs.opening.capped.Goals as goal

pub returns : goal.returns
unfolding capped
returns c = search rules
