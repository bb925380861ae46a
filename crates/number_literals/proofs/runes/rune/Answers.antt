use Rattle.number_literals.proofs.RuneLaws.{is_found, is_none}
use Rattle.number_literals.proofs.runes.rune.Goals as goal

pub returns-clause-found : goal.returns-clause-found
returns-clause-found c = is_found c.args.literal.now c.read_rune.result c.read_rune.ensures

pub returns-clause-none : goal.returns-clause-none
returns-clause-none c = is_none c.args.literal.now c.read_rune.result c.read_rune.ensures
