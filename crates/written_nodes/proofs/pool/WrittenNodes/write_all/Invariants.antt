use Rattle.std.proofs.Common.{take}
use Rattle.written_nodes.proofs.DeclLemmas.{AreMade}
use Rattle.written_nodes.proofs.pool.WrittenNodes.write_all.Given as goal

abbrev pub invariant-loop-id : goal.invariant-loop-id
invariant-loop-id l = AreMade l.arena.nodes l.fn.self l.self (take l.id-index l.ids)
