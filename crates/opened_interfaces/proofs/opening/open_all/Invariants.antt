use Rattle.std.proofs.Common.{length}
use Rattle.environments.specs.Kept.{world, Kept}
use Rattle.interface_opener.specs.Numbered.{state}
use Rattle.interface_opener.specs.Stacked.{stacked}
use Rattle.opened_interfaces.specs.Calls.{Runs}
use Rattle.opened_interfaces.specs.Meant.{known_meant, due_meant}
use Rattle.opened_interfaces.specs.Ways.{asks, opened_for, OnWay}
use Rattle.opened_interfaces.proofs.LoopLemmas.{IsOpening}
use Rattle.type_sets.specs.TypeSets.{set_limit}
use Rattle.opened_interfaces.proofs.opening.open_all.Given as goal

abbrev pub invariant-loop-met : goal.invariant-loop-met
invariant-loop-met g l =
    let entries = g.E.Env.entries l.fn.env l.fn.arena.nodes in
    let names = g.E.Env.names l.fn.env in
    let first = due_meant l.fn.arena.nodes (stacked l.fn.run.tasks.items) in
    let began = known_meant l.fn.arena.nodes (state l.fn.run.found) in
    IsOpening entries names first began l.left (due_meant l.arena.nodes (stacked l.run.tasks.items)) (known_meant l.arena.nodes (state l.run.found))
    × Kept (OnWay entries names (asks entries) set_limit first began) (OnWay entries names (opened_for entries) set_limit first began)
    (world entries names (g.E.Env.packages l.fn.env) (g.E.Env.asked l.fn.env))
    (world (g.E.Env.entries l.env l.arena.nodes) (g.E.Env.names l.env) (g.E.Env.packages l.env) (g.E.Env.asked l.env))
    l.fn.arena l.arena
    × g.E.Env.stands l.env l.arena.nodes × Runs (length l.arena.nodes) l.run

abbrev pub decreases-loop-met : goal.decreases-loop-met
decreases-loop-met g l = l.left
