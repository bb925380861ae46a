use Rattle.pair_walk.proofs.CountLemmas.{met_once, past, within}
use Rattle.pair_walk.proofs.laws.each_pair_once.Goals as goal

pub returns-clause-once : goal.returns-clause-once
returns-clause-once g c = met_once g.C.Comparison.settle g.C.Comparison.same g.C.Comparison.steps g.C.Comparison.reflexive

pub returns-clause-past : goal.returns-clause-past
returns-clause-past g c = past g.C.Comparison.settle g.C.Comparison.same g.C.Comparison.steps g.C.Comparison.reflexive

pub returns-clause-within : goal.returns-clause-within
returns-clause-within g c = within g.C.Comparison.settle g.C.Comparison.same g.C.Comparison.steps g.C.Comparison.reflexive
