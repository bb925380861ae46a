use Rattle.term_tests.proofs.walking.step.Goals as goal

pub returns-in-Enter-clause-kept : goal.returns-in-Enter-clause-kept
returns-in-Enter-clause-kept g c = rw c.in-Enter.is c.enter.ensures.kept
