use Rattle.pair_walk.proofs.SameLemmas.{itself_alike}
use Rattle.pair_walk.proofs.laws.same_where_it_ends.Goals as goal

pub returns : goal.returns
returns g c = itself_alike g.C.Comparison.settle g.C.Comparison.same g.C.Comparison.steps g.C.Comparison.exact
