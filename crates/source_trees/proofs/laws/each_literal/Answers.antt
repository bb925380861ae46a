use Rattle.source_trees.proofs.LiteralLaws.{each}
use Rattle.source_trees.proofs.laws.each_literal.Goals as goal

pub returns : goal.returns
returns c = each
