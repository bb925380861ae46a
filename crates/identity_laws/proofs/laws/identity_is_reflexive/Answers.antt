use Rattle.identity_laws.proofs.ItselfLemmas.{id_itself}
use Rattle.identity_laws.proofs.laws.identity_is_reflexive.Goals as goal

pub returns : goal.returns
returns c side covers depth a sound = id_itself side covers depth a sound
