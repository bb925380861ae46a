use Rattle.std.proofs.Common.{length, drop}
use Rattle.environments.specs.Kept.{world, Kept}
use Rattle.set_terms.specs.Known.{known_of, Holds}
use Rattle.set_terms.proofs.TurnLemmas.{OpensAll, AsksAll, Going}
use Rattle.set_terms.proofs.folding.set_terms.Given as goal

abbrev pub invariant-loop-event : goal.invariant-loop-event
invariant-loop-event g l =
    let entries = g.E.Env.entries l.fn.env l.fn.arena.nodes in
    let names = g.E.Env.names l.fn.env in
    record {
      going : Going g.C.Covering.covered g.C.Covering.opens g.C.Covering.asks entries names l.fn.arena l.fn.events (drop l.event-index l.fn.events) (known_of l.shares);
      kept : Kept (AsksAll g.C.Covering.covered g.C.Covering.opens g.C.Covering.asks entries names l.fn.arena l.fn.events)
          (OpensAll g.C.Covering.covered g.C.Covering.opens g.C.Covering.asks entries names l.fn.arena l.fn.events)
          (world entries names (g.E.Env.packages l.fn.env) (g.E.Env.asked l.fn.env))
          (world (g.E.Env.entries l.env l.arena.nodes) (g.E.Env.names l.env) (g.E.Env.packages l.env) (g.E.Env.asked l.env))
          l.fn.arena l.arena;
      stands : g.E.Env.stands l.env l.arena.nodes;
      holds : Holds (length l.fn.arena.nodes) (known_of l.shares);
    }
