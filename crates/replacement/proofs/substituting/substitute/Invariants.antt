use Rattle.std.proofs.Common.{vec_len}
use Rattle.replacement.specs.Moves.{IsMoving, put_of}
use Rattle.replacement.proofs.substituting.substitute.Given as goal

abbrev pub invariant-loop-id : goal.invariant-loop-id
invariant-loop-id l = IsMoving l.initial.arena l.arena (put_of l.initial.arena.nodes l.params l.args) l.node l.initial.left.items l.left.items l.moves.entries

abbrev pub decreases-loop-id : goal.decreases-loop-id
decreases-loop-id l = vec_len l.left
