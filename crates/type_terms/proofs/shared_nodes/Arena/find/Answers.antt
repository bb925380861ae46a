use Rattle.std.proofs.Common.{sym}
use Rattle.std.proofs.lemmas.Option.{slice_get_within}
use Rattle.type_terms.proofs.InsertionLemmas.{new_from_missing, node_at_position}
use Rattle.type_terms.proofs.shared_nodes.Arena.find.Goals as goal

pub returns-in_err-place-clause-missing : goal.returns-in_err-place-clause-missing
returns-in_err-place-clause-missing c =
    rw c.from_residual.ensures (rw (← c.self.view_is) (new_from_missing _ _ (sym c.in_err-place.ensures.found)))

pub returns-clause-found : goal.returns-clause-found
returns-clause-found c =
    rw (← c.self.view_is) (rw c.at.ensures (node_at_position _ _ _ (sym c.in_ok-place.ensures.index)))

pub returns-clause-within : goal.returns-clause-within
returns-clause-within c =
    rw (← c.self.view_is) (rw c.at.ensures (slice_get_within _ _ _ (node_at_position _ _ _ (sym c.in_ok-place.ensures.index))))
