use Rattle.std.proofs.Common.{◌≡◌, count_by}
use Rattle.cycle_rules.specs.Search.{Searches, is_new}
use Rattle.cycle_rules.proofs.components.component_ranks.Given as goal

abbrev pub invariant-loop-node : goal.invariant-loop-node
invariant-loop-node l = record {
  graph : l.search.graph.now ≡ l.fn.graph;
  search : Searches l.search l.search.pending.items;
}

abbrev pub decreases-loop-node : goal.decreases-loop-node
decreases-loop-node l = count_by is_new l.search.marks.items
