use Rattle.replacement.proofs.ExpansionLemmas.{more_change_nothing}
use Rattle.replacement.proofs.laws.more_names_change_no_expansion.Goals as goal

pub returns : goal.returns
returns c = more_change_nothing
