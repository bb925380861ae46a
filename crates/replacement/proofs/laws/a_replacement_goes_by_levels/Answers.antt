use Rattle.replacement.proofs.SubstitutionLemmas.{replaced_by_level}
use Rattle.replacement.proofs.laws.a_replacement_goes_by_levels.Goals as goal

pub returns : goal.returns
returns c = replaced_by_level
