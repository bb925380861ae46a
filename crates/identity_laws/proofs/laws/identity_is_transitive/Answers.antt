use Rattle.identity_laws.proofs.ChainLemmas.{id_chained}
use Rattle.identity_laws.proofs.laws.identity_is_transitive.Goals as goal

pub returns : goal.returns
returns c left middle right composes depth a b d first second told =
    id_chained left middle right composes depth a b d first second told
