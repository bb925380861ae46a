use Rattle.std.proofs.Common.{◌≡◌, ℕ, ◌<◌, length, slice_get, Some}
use Rattle.cycle_rules.proofs.components.Search.new.Given as goal

abbrev pub invariant-loop-node : goal.invariant-loop-node
invariant-loop-node l = record {
  count : length l.pending.items ≡ l.node;
  each : (v : ℕ) → v < l.node → slice_get l.pending.items v ≡ Some v;
}
