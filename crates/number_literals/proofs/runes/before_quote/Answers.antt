use Rattle.number_literals.proofs.RuneLaws.{quote_then, quote_else}
use Rattle.number_literals.proofs.runes.before_quote.Goals as goal

pub returns-then-last-eq39 : goal.returns-then-last-eq39
returns-then-last-eq39 c = quote_then c.args.text.now c.in_ok-last.front.now c.in_ok-last.last.now c.in_ok-last.ensures.cases.0 c.if-last-eq39.true

pub returns-else-last-eq39 : goal.returns-else-last-eq39
returns-else-last-eq39 c = quote_else c.args.text.now c.in_ok-last.front.now c.in_ok-last.last.now c.in_ok-last.ensures.cases.0 c.if-last-eq39.false
