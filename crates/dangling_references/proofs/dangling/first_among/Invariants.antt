use Rattle.std.proofs.Common.{take}
use Rattle.environments.specs.Kept.{world, Kept}
use Rattle.dangling_references.specs.Dangling.{NoneDangles, IsNamed, OpensNamed}
use Rattle.dangling_references.proofs.dangling.first_among.Given as goal

abbrev pub invariant-loop-place : goal.invariant-loop-place
invariant-loop-place g l =
    let entries = g.E.Env.entries l.fn.env l.fn.arena.nodes in
    NoneDangles entries (take l.place l.mentions.keys)
    × Kept (IsNamed l.mentions.keys) (OpensNamed entries l.mentions.keys)
    (world entries (g.E.Env.names l.fn.env) (g.E.Env.packages l.fn.env) (g.E.Env.asked l.fn.env))
    (world (g.E.Env.entries l.env l.arena.nodes) (g.E.Env.names l.env) (g.E.Env.packages l.env) (g.E.Env.asked l.env))
    l.fn.arena l.arena
    × g.E.Env.stands l.env l.arena.nodes
