use Rattle.replacement.proofs.SubstitutionLemmas.{others_stay}
use Rattle.replacement.proofs.laws.a_replacement_touches_no_other_parameter.Goals as goal

pub returns : goal.returns
returns c = others_stay
