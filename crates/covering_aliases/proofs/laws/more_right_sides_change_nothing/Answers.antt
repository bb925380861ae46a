use Rattle.covering_aliases.proofs.AliasLemmas.{one_more}
use Rattle.covering_aliases.proofs.laws.more_right_sides_change_nothing.Goals as goal

pub returns : goal.returns
returns c settle free entries n type sound = one_more settle free entries n type sound
