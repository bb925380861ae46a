use Rattle.std.proofs.Common.{◌≡◌, true}
use Rattle.environments.specs.References.{started, followed}
use Rattle.environments.specs.ReferenceLaws.{reached_least}
use Rattle.environments.proofs.laws.reach_is_least.Goals as goal

pub returns-clause-starts : goal.returns-clause-starts
returns-clause-starts c = λ entries starts q held. started q held

pub returns-clause-closed : goal.returns-clause-closed
returns-clause-closed c = λ entries starts from to reached held. followed from to reached held

pub returns-clause-least : goal.returns-clause-least
returns-clause-least c = λ entries starts test. reached_least entries starts (λ q. test q ≡ true)
