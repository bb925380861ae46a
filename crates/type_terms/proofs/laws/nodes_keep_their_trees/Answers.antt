use Rattle.type_terms.specs.Denoted.{tree_stays}
use Rattle.type_terms.proofs.laws.nodes_keep_their_trees.Goals as goal

pub returns : goal.returns
returns c = tree_stays
