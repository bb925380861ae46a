use Rattle.cycle_rules.proofs.containment.Containment.application.Goals as goal

pub returns-clause-none : goal.returns-clause-none
returns-clause-none c = rw (← c.self.view_is, ← c.deref.ensures.value) c.entry_at.ensures.none
