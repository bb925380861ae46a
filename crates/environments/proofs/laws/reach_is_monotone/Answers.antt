use Rattle.environments.specs.ReferenceLaws.{reached_monotone}
use Rattle.environments.proofs.laws.reach_is_monotone.Goals as goal

pub returns : goal.returns
returns c = λ entries. reached_monotone entries
