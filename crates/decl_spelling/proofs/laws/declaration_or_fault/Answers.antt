use Rattle.decl_spelling.proofs.DeclAtLaws.{decl_or_fault, one_decl, one_spelling, one_fault, never_both}
use Rattle.decl_spelling.proofs.laws.declaration_or_fault.Goals as goal

pub returns-clause-either : goal.returns-clause-either
returns-clause-either c = decl_or_fault

pub returns-clause-one_declaration : goal.returns-clause-one_declaration
returns-clause-one_declaration c = one_decl

pub returns-clause-one_fault : goal.returns-clause-one_fault
returns-clause-one_fault c = one_fault

pub returns-clause-not_both : goal.returns-clause-not_both
returns-clause-not_both c = never_both

pub returns-clause-one_spelling : goal.returns-clause-one_spelling
returns-clause-one_spelling c = one_spelling
