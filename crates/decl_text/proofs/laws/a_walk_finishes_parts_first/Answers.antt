use Rattle.decl_text.proofs.WalkLevelLemmas.{walk_of_level}
use Rattle.decl_text.proofs.laws.a_walk_finishes_parts_first.Goals as goal

pub returns : goal.returns
returns c = walk_of_level
