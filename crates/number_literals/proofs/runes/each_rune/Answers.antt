use Rattle.number_literals.proofs.RuneTokens.{token_valued}
use Rattle.number_literals.proofs.runes.each_rune.Goals as goal

pub returns : goal.returns
returns c = token_valued
