use Rattle.source_places.proofs.StageLaws.{one_refusal, none_kept}
use Rattle.source_places.proofs.laws.at_most_one_refusal.Goals as goal

pub returns-clause-one : goal.returns-clause-one
returns-clause-one g c = one_refusal g.K.Codes.order g.K.Codes.distinct

pub returns-clause-none : goal.returns-clause-none
returns-clause-none g c = none_kept g.K.Codes.order
