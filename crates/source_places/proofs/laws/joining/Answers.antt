use Rattle.source_places.proofs.LeastLaws.{least_append, earlier_assoc, earlier_none}
use Rattle.source_places.proofs.laws.joining.Goals as goal

pub returns-clause-both : goal.returns-clause-both
returns-clause-both g c = least_append

pub returns-clause-assoc : goal.returns-clause-assoc
returns-clause-assoc g c = earlier_assoc

pub returns-clause-unit : goal.returns-clause-unit
returns-clause-unit g c = earlier_none
