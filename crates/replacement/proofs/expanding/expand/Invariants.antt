use Rattle.std.proofs.Common.{◌<◌, ◌-◌, length}
use Rattle.type_terms.specs.Denotation.{tree}
use Rattle.environments.specs.Kept.{world, Kept}
use Rattle.replacement.specs.Calls.{AsksExpanding, OpensExpanding}
use Rattle.replacement.proofs.ExpandingLemmas.{IsExpanding}
use Rattle.replacement.proofs.expanding.expand.Given as goal

abbrev pub invariant-loop-met : goal.invariant-loop-met
invariant-loop-met g l =
    let entries = g.E.Env.entries l.fn.env l.fn.arena.nodes in
    let first = tree l.fn.arena.nodes l.fn.node in
    IsExpanding entries (g.E.Env.names l.fn.env) first (tree l.arena.nodes l.found) l.met.keys
    × Kept (AsksExpanding entries first) (OpensExpanding entries first)
    (world entries (g.E.Env.names l.fn.env) (g.E.Env.packages l.fn.env) (g.E.Env.asked l.fn.env))
    (world (g.E.Env.entries l.env l.arena.nodes) (g.E.Env.names l.env) (g.E.Env.packages l.env) (g.E.Env.asked l.env))
    l.fn.arena l.arena
    × g.E.Env.stands l.env l.arena.nodes × (l.found < length l.arena.nodes)

abbrev pub decreases-loop-met : goal.decreases-loop-met
decreases-loop-met g l = length (g.E.Env.names l.fn.env) - length l.met.keys
