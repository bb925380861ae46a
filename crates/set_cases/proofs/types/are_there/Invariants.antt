use Rattle.std.proofs.Common.{length}
use Rattle.set_cases.proofs.TypeLemmas.{Left}
use Rattle.set_cases.proofs.types.are_there.Given as goal

abbrev pub invariant-loop-id : goal.invariant-loop-id
invariant-loop-id l = Left (length l.arena.nodes) l.ids l.id-index
