use Rattle.std.proofs.Common.{take}
use Rattle.std.specs.List.{Contains}
use Rattle.environments.specs.Kept.{world, Kept, OpensBehind}
use Rattle.asked_names.specs.Finding.{AreFound}
use Rattle.asked_names.proofs.finding.find_all.Given as goal

-- the names before the place were looked up
abbrev pub invariant-loop-place : goal.invariant-loop-place
invariant-loop-place g l =
    let entries = g.E.Env.entries l.fn.env l.fn.arena.nodes in
    AreFound l.arena.nodes entries (take l.place l.names) l.found.items
    × Kept (Contains l.names) (OpensBehind entries (Contains l.names))
    (world entries (g.E.Env.names l.fn.env) (g.E.Env.packages l.fn.env) (g.E.Env.asked l.fn.env))
    (world (g.E.Env.entries l.env l.arena.nodes) (g.E.Env.names l.env) (g.E.Env.packages l.env) (g.E.Env.asked l.env))
    l.fn.arena l.arena
    × g.E.Env.stands l.env l.arena.nodes
