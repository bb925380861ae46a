use Rattle.std.proofs.Common.{length}
use Rattle.dangling_types.specs.Searching.{IsSearch, last_of}
use Rattle.dangling_types.proofs.reaching.wanted.Given as goal

abbrev pub invariant-loop-id : goal.invariant-loop-id
invariant-loop-id l = IsSearch l.arena.nodes l.known.entries l.fn.start l.met.items l.waiting.keys

abbrev pub decreases-loop-id : goal.decreases-loop-id
decreases-loop-id l = last_of (length l.arena.nodes) l.met.items
