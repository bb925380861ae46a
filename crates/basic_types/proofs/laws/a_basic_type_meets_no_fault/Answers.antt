use Rattle.basic_types.proofs.BasicLemmas.{reached_opens}
use Rattle.basic_types.proofs.laws.a_basic_type_meets_no_fault.Goals as goal

pub returns : goal.returns
returns c entries type basic down q held = reached_opens entries basic type q down held
