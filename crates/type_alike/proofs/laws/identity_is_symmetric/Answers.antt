use Rattle.type_alike.proofs.SwapLemmas.{id_swapped}
use Rattle.type_alike.proofs.laws.identity_is_symmetric.Goals as goal

pub returns : goal.returns
returns c sides depth a b id = id_swapped sides depth a b id
