use Rattle.type_terms.specs.Trees.{parameter}
use Rattle.type_terms.specs.TreeEquality.{same_itself}
use Rattle.replacement.proofs.SubstitutionLemmas.{first_argument}
use Rattle.replacement.proofs.laws.the_first_of_equal_parameters_counts.Goals as goal

pub returns : goal.returns
returns c p ps arg args = first_argument p ps arg args (same_itself (parameter p))
