use Rattle.std.proofs.Common.{sym}
use Rattle.source_trees.proofs.LiteralLaws.{rune_found, no_rune}
use Rattle.source_trees.proofs.literals.rune_literal.Goals as goal

pub returns-in-Some : goal.returns-in-Some
returns-in-Some c = sym (rune_found c.args.bytes.now c.in-Some.value c.in-Some.ensures.found)

pub returns-in-None : goal.returns-in-None
returns-in-None c = sym (no_rune c.args.bytes.now c.in-None.ensures.none)
