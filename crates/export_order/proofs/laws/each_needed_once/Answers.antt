use Rattle.export_order.proofs.QueueLemmas.{needed, listed, once}
use Rattle.export_order.proofs.laws.each_needed_once.Goals as goal

pub returns-clause-needed : goal.returns-clause-needed
returns-clause-needed c = λ entries names starts q has. needed entries starts names q has

pub returns-clause-listed : goal.returns-clause-listed
returns-clause-listed c = λ entries names starts inside q reached. listed entries starts names inside q reached

pub returns-clause-once : goal.returns-clause-once
returns-clause-once c = λ entries names starts. once entries starts names
