use Rattle.std.proofs.Common.{◌≡◌, ◌+◌, length, count_by}
use Rattle.cycle_rules.specs.Search.{Searches, is_new}
use Rattle.cycle_rules.proofs.components.Search.next.Given as goal

abbrev pub invariant-loop-self : goal.invariant-loop-self
invariant-loop-self l = record {
  graph : l.self.graph ≡ l.initial.self.graph;
  search : Searches l.self l.self.pending.items;
  fresh : count_by is_new l.self.marks.items ≡ count_by is_new l.initial.self.marks.items;
}

abbrev pub decreases-loop-self : goal.decreases-loop-self
decreases-loop-self l = length l.self.pending.items + length l.self.bounds.items
