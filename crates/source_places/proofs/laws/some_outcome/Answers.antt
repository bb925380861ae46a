use Rattle.source_places.proofs.StageLaws.{outcome}
use Rattle.source_places.proofs.laws.some_outcome.Goals as goal

pub returns : goal.returns
returns g c = outcome g.K.Codes.order g.K.Codes.codes g.K.Codes.whole
