use Rattle.cycle_rules.specs.Cycles.{AreFirstKinds}
use Rattle.cycle_rules.proofs.cycles.Graphs.kinds.Given as goal

abbrev pub invariant-loop-item : goal.invariant-loop-item
invariant-loop-item l = AreFirstKinds l.self.shapes.now l.item l.kinds.items
