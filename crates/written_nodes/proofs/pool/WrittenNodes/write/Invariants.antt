use Rattle.std.proofs.Common.{vec_len}
use Rattle.written_nodes.specs.Searching.{IsMaking}
use Rattle.written_nodes.proofs.pool.WrittenNodes.write.Given as goal

abbrev pub invariant-loop-next : goal.invariant-loop-next
invariant-loop-next l = IsMaking l.arena.nodes l.fn.self.nodes l.fn.self.made l.initial.left.items l.left.items l.self-inside.nodes l.self-inside.made.entries

abbrev pub decreases-loop-next : goal.decreases-loop-next
decreases-loop-next l = vec_len l.left
