use Rattle.interface_opening.proofs.OpenedLaws.{opened_once, opened_within}
use Rattle.interface_opening.proofs.laws.each_opened_once.Goals as goal

pub returns-clause-once : goal.returns-clause-once
returns-clause-once g c = opened_once g.O.Openable.looks g.O.Openable.reflexive

pub returns-clause-within : goal.returns-clause-within
returns-clause-within g c = opened_within g.O.Openable.looks g.O.Openable.reflexive
