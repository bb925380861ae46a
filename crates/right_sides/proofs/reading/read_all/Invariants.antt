use Rattle.std.proofs.Common.{take, length}
use Rattle.std.specs.List.{Contains}
use Rattle.environments.specs.Kept.{world, Kept, OpensBehind}
use Rattle.right_sides.specs.Tables.{table_of, AreWithin}
use Rattle.right_sides.specs.Readings.{AreTold}
use Rattle.right_sides.proofs.reading.read_all.Given as goal

abbrev pub invariant-loop-place : goal.invariant-loop-place
invariant-loop-place g l =
    let entries = g.E.Env.entries l.fn.env l.fn.arena.nodes in
    AreTold entries (take l.place l.order.keys) (table_of l.arena.nodes l.rights.entries)
    × AreWithin (length l.arena.nodes) l.rights.entries
    × Kept (Contains l.order.keys) (OpensBehind entries (Contains l.order.keys))
    (world entries (g.E.Env.names l.fn.env) (g.E.Env.packages l.fn.env) (g.E.Env.asked l.fn.env))
    (world (g.E.Env.entries l.env l.arena.nodes) (g.E.Env.names l.env) (g.E.Env.packages l.env) (g.E.Env.asked l.env))
    l.fn.arena l.arena
    × g.E.Env.stands l.env l.arena.nodes
