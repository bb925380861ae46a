use Rattle.dangling_types.specs.Findings.{AreRight}
use Rattle.dangling_types.proofs.FirstLemmas.{NoneUpTo}
use Rattle.dangling_types.proofs.findings.look_at_all.Given as goal

abbrev pub invariant-loop-id : goal.invariant-loop-id
invariant-loop-id g l =
    AreRight (g.R.Roles.entries l.roles) l.arena.nodes l.known.entries
    × NoneUpTo (g.R.Roles.entries l.roles) l.arena.nodes l.types l.id-index
