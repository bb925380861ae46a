use Rattle.name_index.proofs.SortedLemmas.{one_number}
use Rattle.name_index.proofs.laws.listed_once.Goals as goal

pub returns : goal.returns
returns c = one_number
