use Rattle.std.proofs.Common.{◌≡◌, ℕ, ◌≤◌, length, take, slice_get, Some, count_by}
use Rattle.cycle_rules.specs.Search.{is_new}
use Rattle.cycle_rules.specs.declared.components.Mark.TheVariants.{Done}
use Rattle.cycle_rules.proofs.components.Search.close.Given as goal

abbrev pub invariant-loop-self : goal.invariant-loop-self
invariant-loop-self l = record {
  kept : l.self.stack.items ≡ take (length l.self.stack.items) l.initial.self.stack.items;
  within : l.place ≤ length l.self.stack.items;
  closed : (i v : ℕ) → length l.self.stack.items ≤ i → slice_get l.initial.self.stack.items i ≡ Some v → slice_get l.self.marks.items v ≡ Some (Done l.initial.self.rank);
  others : (v : ℕ) → ((i : ℕ) → length l.self.stack.items ≤ i → slice_get l.initial.self.stack.items i ≡ Some v → ⊥) → slice_get l.self.marks.items v ≡ slice_get l.initial.self.marks.items v;
  sized : length l.self.marks.items ≡ length l.initial.self.marks.items;
  fresh : count_by is_new l.self.marks.items ≡ count_by is_new l.initial.self.marks.items;
  pending : l.self.pending ≡ l.initial.self.pending;
  bounds : l.self.bounds ≡ l.initial.self.bounds;
  rank : l.self.rank ≡ l.initial.self.rank;
  graph : l.self.graph ≡ l.initial.self.graph;
}

abbrev pub decreases-loop-self : goal.decreases-loop-self
decreases-loop-self l = length l.self.stack.items
