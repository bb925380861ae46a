use Rattle.interface_opening.proofs.OpenedLaws.{opened_has}
use Rattle.interface_opening.proofs.laws.of_the_opened.Goals as goal

pub returns : goal.returns
returns g c = opened_has g.O.Openable.looks g.O.Openable.reflexive
