use Rattle.type_terms.specs.AdditionLaws.{want_of_nodes_joins}
use Rattle.type_terms.proofs.laws.want_of_nodes_joins.Goals as goal

pub returns : goal.returns
returns c = want_of_nodes_joins
