use Rattle.type_terms.specs.AdditionLaws.{outgrown_by_more}
use Rattle.type_terms.proofs.laws.more_types_outgrow.Goals as goal

pub returns : goal.returns
returns c = outgrown_by_more
