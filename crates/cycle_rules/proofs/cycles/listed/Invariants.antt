use Rattle.std.proofs.Common.{◌≡◌, map, take}
use Rattle.cycle_rules.specs.Cycles.{targets_of}
use Rattle.cycle_rules.proofs.cycles.listed.Given as goal

abbrev pub invariant-loop-shape : goal.invariant-loop-shape
invariant-loop-shape l = map (λ t. t.now) l.graph.items ≡ map (targets_of l.kind) (take l.shape-index l.shapes)
