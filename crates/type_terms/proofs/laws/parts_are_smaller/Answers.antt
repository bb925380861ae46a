use Rattle.type_terms.specs.TreeSizes.{part_falls}
use Rattle.type_terms.proofs.laws.parts_are_smaller.Goals as goal

pub returns : goal.returns
returns c = part_falls
