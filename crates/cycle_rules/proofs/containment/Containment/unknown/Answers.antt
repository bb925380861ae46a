use Rattle.cycle_rules.proofs.ContainmentLemmas.{held_within}
use Rattle.cycle_rules.proofs.containment.Containment.unknown.Goals as goal

pub returns-clause-within : goal.returns-clause-within
returns-clause-within c = held_within c.args.self.now c.contains.ensures.sound c.args.place.owner c.in-Held.index c.args.place.form.now c.requires.counts c.in-Held.is
