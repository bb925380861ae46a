use Rattle.std.proofs.Common.{◌<◌, length}
use Rattle.node_bench.proofs.add_arrays.Given as goal

abbrev pub invariant-loop-length : goal.invariant-loop-length
invariant-loop-length l = l.element < length l.arena.nodes
