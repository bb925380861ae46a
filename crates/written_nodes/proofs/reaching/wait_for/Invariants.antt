use Rattle.std.proofs.Common.{take}
use Rattle.written_nodes.specs.Searching.{Joins}
use Rattle.written_nodes.proofs.reaching.wait_for.Given as goal

abbrev pub invariant-loop-id : goal.invariant-loop-id
invariant-loop-id l = Joins l.made.entries l.fn.waiting.keys l.waiting.keys (take l.id-index l.ids)
