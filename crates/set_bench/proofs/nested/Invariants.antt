use Rattle.std.proofs.Common.{◌<◌, length}
use Rattle.set_bench.proofs.nested.Given as goal

abbrev pub invariant-loop-number : goal.invariant-loop-number
invariant-loop-number l = l.last < length l.arena.nodes
