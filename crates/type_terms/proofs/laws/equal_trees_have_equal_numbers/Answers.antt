use Rattle.type_terms.specs.Denoted.{tree_told}
use Rattle.type_terms.proofs.laws.equal_trees_have_equal_numbers.Goals as goal

pub returns : goal.returns
returns c = tree_told
