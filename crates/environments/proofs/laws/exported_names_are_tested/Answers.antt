use Rattle.std.specs.Str.{chars}
use Rattle.environments.specs.Exported.{valid_front}
use Rattle.environments.proofs.ExportedLemmas.{starting_is_tested}
use Rattle.environments.proofs.laws.exported_names_are_tested.Goals as goal

pub returns : goal.returns
returns c = λ name. starting_is_tested (chars (valid_front name))
