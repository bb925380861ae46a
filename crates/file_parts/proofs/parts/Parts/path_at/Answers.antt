use Rattle.file_parts.proofs.parts.Parts.path_at.Goals as goal

pub returns-clause-found : goal.returns-clause-found
returns-clause-found c = rw (← c.strings.ensures) c.path_at.ensures.found

pub returns-clause-none : goal.returns-clause-none
returns-clause-none c = rw (← c.strings.ensures) c.path_at.ensures.none
