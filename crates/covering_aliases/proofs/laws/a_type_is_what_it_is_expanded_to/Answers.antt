use Rattle.covering_aliases.proofs.ExpandingLemmas.{is_expanded}
use Rattle.covering_aliases.proofs.laws.a_type_is_what_it_is_expanded_to.Goals as goal

pub returns : goal.returns
returns c settle free entries names are proper type whole is = is_expanded settle free entries names are proper type whole is
