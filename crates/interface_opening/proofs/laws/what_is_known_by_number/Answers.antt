use Rattle.std.proofs.Common.{◌≡◌, true}
use Rattle.interface_opening.proofs.MappedLemmas.{noting_mapped, marking_mapped}
use Rattle.interface_opening.proofs.laws.what_is_known_by_number.Goals as goal

pub returns-clause-noting : goal.returns-clause-noting
returns-clause-noting g c = noting_mapped g.N.Openable.looks g.O.Openable.looks

pub returns-clause-marking : goal.returns-clause-marking
returns-clause-marking g c d m known agree = marking_mapped g.N.Openable.looks g.O.Openable.looks d m (λ a. known a ≡ true) agree
