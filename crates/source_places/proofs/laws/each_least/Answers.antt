use Rattle.source_places.proofs.LeastLaws.{is_least, least_is, none_least}
use Rattle.source_places.proofs.laws.each_least.Goals as goal

pub returns-clause-found : goal.returns-clause-found
returns-clause-found g c = is_least

pub returns-clause-only : goal.returns-clause-only
returns-clause-only g c = least_is

pub returns-clause-none : goal.returns-clause-none
returns-clause-none g c = none_least
