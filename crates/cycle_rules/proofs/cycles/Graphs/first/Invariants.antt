use Rattle.std.proofs.Common.{ℕ, ◌<◌}
use Rattle.cycle_rules.specs.declared.cycles.CycleKind.{CycleKind}
use Rattle.cycle_rules.specs.Cycles.{IsCyclic}
use Rattle.cycle_rules.proofs.cycles.Graphs.first.Given as goal

abbrev pub invariant-loop-item : goal.invariant-loop-item
invariant-loop-item l = (k : CycleKind) (s : ℕ) → s < l.item → IsCyclic l.self.shapes.now k s → ⊥
