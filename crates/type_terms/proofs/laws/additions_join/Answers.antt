use Rattle.type_terms.specs.AdditionLaws.{additions_join}
use Rattle.type_terms.proofs.laws.additions_join.Goals as goal

pub returns : goal.returns
returns c = additions_join
