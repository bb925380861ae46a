use Rattle.replacement.proofs.ExpansionLemmas.{expanded_settled}
use Rattle.replacement.proofs.laws.an_expanded_type_has_no_alias_at_its_head.Goals as goal

pub returns : goal.returns
returns c = expanded_settled
