use Rattle.std.proofs.Common.{◌≡◌, map, take}
use Rattle.cycle_rules.proofs.cycles.lent.Given as goal

abbrev pub invariant-loop-row : goal.invariant-loop-row
invariant-loop-row l = map (λ t. t.now) l.graph.items ≡ map (λ r. r.items) (take l.row-index l.rows)
