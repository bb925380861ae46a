use Rattle.type_terms.specs.TreeEquality.{same_itself}
use Rattle.interface_opening.proofs.OpenedLaws.{opened_has}
use Rattle.type_sets.specs.TypeSets.{looks, set_limit, top_items}
use Rattle.type_sets.proofs.laws.what_is_opened_gives_the_set.Goals as goal

pub returns : goal.returns
returns c entries names type s is = opened_has (looks entries names) same_itself set_limit (top_items entries names type) s is
