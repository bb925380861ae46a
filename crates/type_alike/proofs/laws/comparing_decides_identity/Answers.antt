use Rattle.type_alike.proofs.IdentityLemmas.{same_all, differ_at, break_at}
use Rattle.type_alike.proofs.laws.comparing_decides_identity.Goals as goal

pub returns-clause-same : goal.returns-clause-same
returns-clause-same c sides starts is = same_all sides starts is

pub returns-clause-differ : goal.returns-clause-differ
returns-clause-differ c sides starts depth is = differ_at sides starts depth is

pub returns-clause-broken : goal.returns-clause-broken
returns-clause-broken c sides starts fault is = break_at sides starts fault is
