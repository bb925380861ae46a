use Rattle.decl_locality.proofs.EarlyEnds.{ends_early}
use Rattle.decl_locality.proofs.laws.descriptors_end_early.Goals as goal

pub returns : goal.returns
returns c = ends_early
