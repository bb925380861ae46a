use Rattle.replacement.proofs.substituting.note.Goals as goal

pub returns-in-Ok-clause-noted : goal.returns-in-Ok-clause-noted
returns-in-Ok-clause-noted c = c.in-Ok.ensures.updates.0
