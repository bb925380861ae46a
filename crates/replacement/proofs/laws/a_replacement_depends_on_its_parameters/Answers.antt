use Rattle.replacement.proofs.SubstitutionLemmas.{replaced_agrees}
use Rattle.replacement.proofs.laws.a_replacement_depends_on_its_parameters.Goals as goal

pub returns : goal.returns
returns c = replaced_agrees
