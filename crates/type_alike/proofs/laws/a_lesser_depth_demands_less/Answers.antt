use Rattle.type_alike.proofs.SwapLemmas.{id_below}
use Rattle.type_alike.proofs.laws.a_lesser_depth_demands_less.Goals as goal

pub returns : goal.returns
returns c sides depth a b id = id_below sides depth a b id
