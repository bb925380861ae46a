use Rattle.string_literals.proofs.Valued.{interpreted_valued, raw_valued, token_valued}
use Rattle.string_literals.proofs.literals.each_has_value.Goals as goal

pub returns : goal.returns
returns c = record { token = token_valued; interpreted = interpreted_valued; raw = raw_valued }
