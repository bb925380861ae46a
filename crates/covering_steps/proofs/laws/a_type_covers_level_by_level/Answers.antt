use Rattle.covering_steps.proofs.StepLemmas.{by_step}
use Rattle.covering_steps.proofs.laws.a_type_covers_level_by_level.Goals as goal

pub returns : goal.returns
returns c settle free expand given type is = by_step settle free expand given type is
