use Rattle.std.proofs.Common.{ℕ, ◌<◌, drop}
use Rattle.environments.specs.Kept.{world, Kept}
use Rattle.common_terms.specs.Calls.{AllWithin}
use Rattle.common_terms.proofs.OneTurns.{OpensAll, AsksAll, Coming}
use Rattle.common_terms.proofs.meeting.meet_one.Given as goal

abbrev pub invariant-loop-y : goal.invariant-loop-y
invariant-loop-y g l =
    let entries = g.E.Env.entries l.fn.env l.fn.arena.nodes in
    let names = g.E.Env.names l.fn.env in
    record {
      comes : Coming g.C.Covering.covered g.C.Covering.opens g.C.Covering.asks entries names l.fn.arena l.fn.x l.fn.ys l.fn.found.keys (drop l.y-index l.fn.ys) l.found.keys;
      kept : Kept (AsksAll g.C.Covering.covered g.C.Covering.opens g.C.Covering.asks entries names l.fn.arena l.fn.x l.fn.ys l.fn.found.keys)
          (OpensAll g.C.Covering.covered g.C.Covering.opens g.C.Covering.asks entries names l.fn.arena l.fn.x l.fn.ys l.fn.found.keys)
          (world entries names (g.E.Env.packages l.fn.env) (g.E.Env.asked l.fn.env))
          (world (g.E.Env.entries l.env l.arena.nodes) (g.E.Env.names l.env) (g.E.Env.packages l.env) (g.E.Env.asked l.env))
          l.fn.arena l.arena;
      stands : g.E.Env.stands l.env l.arena.nodes;
      within : (n : ℕ) → l.fn.x.ty < n → AllWithin n l.fn.ys → AllWithin n l.fn.found.keys → AllWithin n l.found.keys;
    }
