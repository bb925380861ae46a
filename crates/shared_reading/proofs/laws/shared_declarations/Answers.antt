use Rattle.shared_reading.proofs.MemoryLemmas.{no_memory}
use Rattle.shared_reading.proofs.SharedReads.{shared_is_plain, stays_memory, grows_memory}
use Rattle.shared_reading.proofs.laws.shared_declarations.Goals as goal

pub returns-clause-nothing : goal.returns-clause-nothing
returns-clause-nothing c = no_memory

pub returns-clause-plain : goal.returns-clause-plain
returns-clause-plain c = shared_is_plain

pub returns-clause-keeps : goal.returns-clause-keeps
returns-clause-keeps c = stays_memory

pub returns-clause-grows : goal.returns-clause-grows
returns-clause-grows c = grows_memory
