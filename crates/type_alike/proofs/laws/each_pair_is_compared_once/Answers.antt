use Rattle.type_alike.proofs.IdentityLemmas.{met_once, past_count, within_count}
use Rattle.type_alike.proofs.laws.each_pair_is_compared_once.Goals as goal

pub returns-clause-once : goal.returns-clause-once
returns-clause-once c sides starts = met_once sides starts

pub returns-clause-past : goal.returns-clause-past
returns-clause-past c sides starts is = past_count sides starts is

pub returns-clause-within : goal.returns-clause-within
returns-clause-within c sides starts is = within_count sides starts is
