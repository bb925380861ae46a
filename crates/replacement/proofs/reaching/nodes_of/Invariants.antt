use Rattle.std.proofs.Common.{length}
use Rattle.replacement.specs.Moves.{IsSearch, last_of}
use Rattle.replacement.proofs.reaching.nodes_of.Given as goal

abbrev pub invariant-loop-id : goal.invariant-loop-id
invariant-loop-id l = IsSearch l.arena.nodes l.fn.start l.met.items l.waiting.keys

abbrev pub decreases-loop-id : goal.decreases-loop-id
decreases-loop-id l = last_of (length l.arena.nodes) l.met.items
