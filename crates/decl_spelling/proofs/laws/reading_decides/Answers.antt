use Rattle.decl_spelling.proofs.DeclAtLaws.{decl_found, decl_again, read_found}
use Rattle.decl_spelling.proofs.laws.reading_decides.Goals as goal

pub returns-clause-found : goal.returns-clause-found
returns-clause-found c = decl_found

pub returns-clause-again : goal.returns-clause-again
returns-clause-again c = decl_again

pub returns-clause-parts : goal.returns-clause-parts
returns-clause-parts c = read_found
