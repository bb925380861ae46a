use Rattle.number_literals.proofs.RuneLaws.{one_value}
use Rattle.number_literals.proofs.runes.one_rune.Goals as goal

pub returns : goal.returns
returns c = one_value
