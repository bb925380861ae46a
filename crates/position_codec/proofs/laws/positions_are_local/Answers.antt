use Rattle.position_codec.proofs.LocalLemmas.{position_local}
use Rattle.position_codec.proofs.laws.positions_are_local.Goals as goal

pub returns : goal.returns
returns c = position_local
