use Rattle.source_trees.proofs.LiteralLaws.{one}
use Rattle.source_trees.proofs.laws.one_literal.Goals as goal

pub returns : goal.returns
returns c = one
