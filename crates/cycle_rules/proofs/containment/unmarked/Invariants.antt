use Rattle.std.proofs.Common.{take, map}
use Rattle.cycle_rules.specs.Containment.{IsUnmarked}
use Rattle.cycle_rules.proofs.containment.unmarked.Given as goal

abbrev pub invariant-loop-shape : goal.invariant-loop-shape
invariant-loop-shape l = IsUnmarked (take l.shape-index l.shapes) (map (λ row. row.items) l.rows.items)
