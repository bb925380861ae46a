use Rattle.decl_locality.proofs.DescriptorReaders.{flat_local}
use Rattle.decl_locality.proofs.DeclarationReaders.{head_local, receivers_local, value_local}
use Rattle.decl_locality.proofs.laws.blocks_are_local.Goals as goal

pub returns : goal.returns
returns c = record { descriptor = flat_local; head = head_local; methods = receivers_local; value = value_local }
