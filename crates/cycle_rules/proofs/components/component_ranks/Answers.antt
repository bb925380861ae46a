use Rattle.cycle_rules.proofs.components.component_ranks.Goals as goal

pub enter-requires-clause-graph : goal.enter-requires-clause-graph
enter-requires-clause-graph c = rw (c.next.ensures.graph, c.loop-node.invariant.graph) c.requires.graph
