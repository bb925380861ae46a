use Rattle.interface_opening.proofs.ExitLemmas.{nothing_left, item_goes, item_stops, item_opens, item_over}
use Rattle.interface_opening.proofs.laws.an_item_at_a_time.Goals as goal

pub returns-clause-done : goal.returns-clause-done
returns-clause-done g c = nothing_left g.O.Openable.looks

pub returns-clause-on : goal.returns-clause-on
returns-clause-on g c n item rest s t = item_goes g.O.Openable.looks item rest s n t

pub returns-clause-fault : goal.returns-clause-fault
returns-clause-fault g c n item rest s f = item_stops g.O.Openable.looks item rest s n f

pub returns-clause-opens : goal.returns-clause-opens
returns-clause-opens g c n item rest s t x it is = item_opens g.O.Openable.looks item rest s t x it is n

pub returns-clause-full : goal.returns-clause-full
returns-clause-full g c item rest s t x it is = item_over g.O.Openable.looks item rest s t x it is
