use Rattle.std.proofs.Common.{◌≡◌, length, map}
use Rattle.type_terms.specs.Arenas.{Extends}
use Rattle.type_alike.specs.Comparing.{compared}
use Rattle.type_demands.specs.NodeDemands.{pair_tree}
use Rattle.identity_walk.specs.Walking.{due_of, rest_of, IsState, weight}
use Rattle.identity_walk.proofs.comparing.compare.Given as goal

abbrev pub invariant-loop-met : goal.invariant-loop-met
invariant-loop-met g l =
    let first = g.S.Sides.meant l.fn.sides l.fn.arena.nodes in
    (compared first (map (pair_tree l.fn.arena.nodes) l.starts) ≡ rest_of first l.arena.nodes (due_of l.stack.items) l.met.keys)
    × IsState (length l.arena.nodes) (due_of l.stack.items) l.met.keys
    × (g.S.Sides.meant l.sides l.arena.nodes ≡ first)
    × Extends l.fn.arena l.arena
    × g.S.Sides.stands l.sides l.arena.nodes

abbrev pub decreases-loop-met : goal.decreases-loop-met
decreases-loop-met g l = weight (due_of l.stack.items) l.met.keys
