use Rattle.shared_reading.proofs.TurnCounts.{memory_bytes, few_steps, all_in_turn}
use Rattle.shared_reading.proofs.laws.counted_once.Goals as goal

pub returns-clause-descriptors : goal.returns-clause-descriptors
returns-clause-descriptors c = memory_bytes

pub returns-clause-all : goal.returns-clause-all
returns-clause-all c = all_in_turn

pub returns-clause-one : goal.returns-clause-one
returns-clause-one c = few_steps
