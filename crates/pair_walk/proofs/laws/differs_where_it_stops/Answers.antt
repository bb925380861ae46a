use Rattle.pair_walk.proofs.DifferLemmas.{differs, breaks}
use Rattle.pair_walk.proofs.laws.differs_where_it_stops.Goals as goal

pub returns-clause-differs : goal.returns-clause-differs
returns-clause-differs g c = differs g.C.Comparison.settle g.C.Comparison.same g.C.Comparison.steps

pub returns-clause-breaks : goal.returns-clause-breaks
returns-clause-breaks g c = breaks g.C.Comparison.settle g.C.Comparison.same g.C.Comparison.steps
