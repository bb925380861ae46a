use Rattle.decl_spelling.proofs.DeclAtLaws.{spells_more}
use Rattle.decl_spelling.proofs.laws.more_blocks.Goals as goal

pub returns : goal.returns
returns c = spells_more
