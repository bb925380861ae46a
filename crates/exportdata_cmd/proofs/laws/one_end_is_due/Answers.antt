use Rattle.exportdata_cmd.proofs.DueLemmas.{one_due}
use Rattle.exportdata_cmd.proofs.laws.one_end_is_due.Goals as goal

pub returns : goal.returns
returns c = one_due
