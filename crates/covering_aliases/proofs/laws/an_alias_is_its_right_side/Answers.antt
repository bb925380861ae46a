use Rattle.covering_aliases.proofs.AliasLemmas.{alias_is}
use Rattle.covering_aliases.proofs.laws.an_alias_is_its_right_side.Goals as goal

pub returns : goal.returns
returns c settle free entries n m q ends fits args = alias_is settle free entries n m q ends fits args
