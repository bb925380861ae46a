use Rattle.environments.specs.ReferenceLaws.{reached_again}
use Rattle.environments.proofs.laws.reach_is_idempotent.Goals as goal

pub returns : goal.returns
returns c = λ entries. reached_again entries
