use Rattle.string_literals.proofs.Again.{same_value}
use Rattle.string_literals.proofs.literals.one_value.Goals as goal

pub returns : goal.returns
returns c = same_value
