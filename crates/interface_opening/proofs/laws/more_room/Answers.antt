use Rattle.interface_opening.proofs.RoomLemmas.{one_more}
use Rattle.interface_opening.proofs.laws.more_room.Goals as goal

pub returns : goal.returns
returns g c = one_more g.O.Openable.looks
