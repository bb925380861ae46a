use Rattle.number_literals.proofs.Laws.{one_value}
use Rattle.number_literals.proofs.wholes.one_whole.Goals as goal

pub returns : goal.returns
returns c = one_value
