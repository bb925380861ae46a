use Rattle.number_literals.proofs.Laws.{token_valued}
use Rattle.number_literals.proofs.wholes.each_whole.Goals as goal

pub returns : goal.returns
returns c = token_valued
