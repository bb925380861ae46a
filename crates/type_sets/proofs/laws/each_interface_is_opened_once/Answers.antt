use Rattle.type_terms.specs.TreeEquality.{same_itself}
use Rattle.interface_opening.proofs.OpenedLaws.{opened_once, opened_within}
use Rattle.type_sets.specs.TypeSets.{looks, set_limit, top_items}
use Rattle.type_sets.proofs.laws.each_interface_is_opened_once.Goals as goal

pub returns-clause-once : goal.returns-clause-once
returns-clause-once c entries names type s is = opened_once (looks entries names) same_itself set_limit (top_items entries names type) s is

pub returns-clause-within : goal.returns-clause-within
unfolding set_limit
returns-clause-within c entries names type s is = opened_within (looks entries names) same_itself set_limit (top_items entries names type) s is
