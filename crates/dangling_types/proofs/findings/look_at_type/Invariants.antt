use Rattle.std.proofs.Common.{vec_len}
use Rattle.dangling_types.specs.Searching.{IsLooking}
use Rattle.dangling_types.proofs.findings.look_at_type.Given as goal

abbrev pub invariant-loop-next : goal.invariant-loop-next
invariant-loop-next g l = IsLooking (g.R.Roles.entries l.roles) l.arena.nodes l.fn.known.entries l.initial.left.items l.left.items l.known.entries

abbrev pub decreases-loop-next : goal.decreases-loop-next
decreases-loop-next g l = vec_len l.left
