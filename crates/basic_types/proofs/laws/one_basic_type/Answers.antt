use Rattle.basic_types.proofs.WayLemmas.{one_basic}
use Rattle.basic_types.proofs.laws.one_basic_type.Goals as goal

pub returns : goal.returns
returns c = one_basic
