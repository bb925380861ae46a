use Rattle.std.proofs.Common.{◌≡◌, ℕ, ◌<◌, slice_get, Some}
use Rattle.cycle_rules.proofs.components.has_rank.Given as goal

abbrev pub invariant-loop-node : goal.invariant-loop-node
invariant-loop-node l = (k v : ℕ) → k < l.node-index → slice_get l.nodes k ≡ Some v → slice_get l.ranks v ≡ Some l.rank → ⊥
