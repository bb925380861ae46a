use Rattle.std.proofs.Common.{take}
use Rattle.replacement.specs.Moves.{Joins}
use Rattle.replacement.proofs.reaching.wait_for.Given as goal

abbrev pub invariant-loop-id : goal.invariant-loop-id
invariant-loop-id l = Joins l.fn.waiting.keys l.waiting.keys (take l.id-index l.ids)
