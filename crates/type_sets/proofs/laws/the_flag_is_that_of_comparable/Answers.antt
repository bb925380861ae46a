use Rattle.type_sets.proofs.SetLemmas.{flag_told, flag_made}
use Rattle.type_sets.proofs.laws.the_flag_is_that_of_comparable.Goals as goal

pub returns : goal.returns
returns c name under shown is = (flag_told name under shown is, flag_made name under shown is)
