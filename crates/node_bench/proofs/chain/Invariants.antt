use Rattle.std.proofs.Common.{◌<◌, length}
use Rattle.node_bench.proofs.chain.Given as goal

abbrev pub invariant-loop : goal.invariant-loop
invariant-loop l = l.last < length l.arena.nodes
