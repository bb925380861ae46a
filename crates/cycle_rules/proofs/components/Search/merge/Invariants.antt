use Rattle.std.proofs.Common.{◌≡◌, ℕ, ◌<◌, ◌≤◌, length, take, slice_get, Some}
use Rattle.cycle_rules.specs.declared.components.Bound.{Bound}
use Rattle.cycle_rules.proofs.components.Search.merge.Given as goal

abbrev pub invariant-loop-bound : goal.invariant-loop-bound
invariant-loop-bound l = record {
  kept : l.self.bounds.items ≡ take (length l.self.bounds.items) l.initial.self.bounds.items;
  merged : (j : ℕ) (b : Bound) → length l.self.bounds.items ≤ j → slice_get l.initial.self.bounds.items j ≡ Some b → l.place < b.stack;
  marks : l.self.marks ≡ l.initial.self.marks;
  stack : l.self.stack ≡ l.initial.self.stack;
  pending : l.self.pending ≡ l.initial.self.pending;
  rank : l.self.rank ≡ l.initial.self.rank;
  graph : l.self.graph ≡ l.initial.self.graph;
}

abbrev pub decreases-loop-bound : goal.decreases-loop-bound
decreases-loop-bound l = length l.self.bounds.items
