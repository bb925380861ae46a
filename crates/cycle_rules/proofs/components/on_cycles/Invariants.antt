use Rattle.std.proofs.Common.{map}
use Rattle.cycle_rules.specs.Paths.{Arrow, TellsCycles}
use Rattle.cycle_rules.proofs.components.on_cycles.Given as goal

abbrev pub invariant-loop-node : goal.invariant-loop-node
invariant-loop-node l = TellsCycles (Arrow (map (λ t. t.now) l.graph)) l.node l.told.items
