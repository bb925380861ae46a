use Rattle.cycle_rules.proofs.ContainmentLemmas.{owns_held}
use Rattle.cycle_rules.proofs.containment.Containment.find.Goals as goal

pub returns-in-Some-unknown-clause-found : goal.returns-in-Some-unknown-clause-found
returns-in-Some-unknown-clause-found c = owns_held c.loop-place.self.shapes c.in-Some.place.owner c.in-Some-unknown.index c.in-Some.place.form.now c.in-Some.ensures.counts c.in-Some-unknown.ensures.found
