use Rattle.std.proofs.Common.{[]}
use Rattle.pair_walk.proofs.RoomLemmas.{one_more}
use Rattle.pair_walk.proofs.laws.more_room.Goals as goal

pub returns : goal.returns
returns g c = λ n due within. one_more g.C.Comparison.settle g.C.Comparison.same g.C.Comparison.steps n [] due within
