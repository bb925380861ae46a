use Rattle.std.proofs.Common.{take}
use Rattle.dangling_types.specs.Searching.{Joins}
use Rattle.dangling_types.proofs.reaching.wait_for.Given as goal

abbrev pub invariant-loop-id : goal.invariant-loop-id
invariant-loop-id l = Joins l.known.entries l.fn.waiting.keys l.waiting.keys (take l.id-index l.ids)
