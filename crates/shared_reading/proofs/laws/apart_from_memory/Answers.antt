use Rattle.shared_reading.proofs.SharedReads.{law_apart, law_shared}
use Rattle.shared_reading.proofs.laws.apart_from_memory.Goals as goal

pub returns-clause-apart : goal.returns-clause-apart
returns-clause-apart c = law_apart

pub returns-clause-shared : goal.returns-clause-shared
returns-clause-shared c = law_shared
