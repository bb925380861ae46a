use Rattle.std.proofs.Common.{◌<◌, ◌-◌, length}
use Rattle.type_terms.specs.Denotation.{tree}
use Rattle.environments.specs.Kept.{world, Kept}
use Rattle.basic_types.specs.BasicTypes.{IsReached}
use Rattle.basic_types.specs.Calls.{OpensOnWay}
use Rattle.basic_types.proofs.OnTheWay.{IsOnTheWay}
use Rattle.basic_types.proofs.following.basic_type.Given as goal

abbrev pub invariant-loop-met : goal.invariant-loop-met
invariant-loop-met g l =
    let entries = g.E.Env.entries l.fn.env l.fn.arena.nodes in
    let start = tree l.fn.arena.nodes l.fn.node in
    IsOnTheWay entries (g.E.Env.names l.fn.env) start (tree l.arena.nodes l.found) l.met.keys
    × Kept (IsReached entries start) (OpensOnWay entries start)
    (world entries (g.E.Env.names l.fn.env) (g.E.Env.packages l.fn.env) (g.E.Env.asked l.fn.env))
    (world (g.E.Env.entries l.env l.arena.nodes) (g.E.Env.names l.env) (g.E.Env.packages l.env) (g.E.Env.asked l.env))
    l.fn.arena l.arena
    × g.E.Env.stands l.env l.arena.nodes × (l.found < length l.arena.nodes)

abbrev pub decreases-loop-met : goal.decreases-loop-met
decreases-loop-met g l = length (g.E.Env.names l.fn.env) - length l.met.keys
