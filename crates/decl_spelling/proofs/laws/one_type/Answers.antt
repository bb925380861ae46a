use Rattle.decl_spelling.proofs.DeclAtLaws.{one_type, one_block}
use Rattle.decl_spelling.proofs.laws.one_type.Goals as goal

pub returns-clause-block : goal.returns-clause-block
returns-clause-block c = one_type

pub returns-clause-parts : goal.returns-clause-parts
returns-clause-parts c = one_block
