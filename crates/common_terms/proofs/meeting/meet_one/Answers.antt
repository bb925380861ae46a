use Rattle.std.proofs.Common.{◌≡◌, ℕ, suc, ◌∷◌, List, length, drop, refl, subst, arith}
use Rattle.std.proofs.lemmas.Result.{err_from_is_err_and}
use Rattle.environments.specs.KeptLaws.{kept_itself}
use Rattle.type_terms.specs.declared.literals.Term.{Term as Code}
use Rattle.common_terms.proofs.LoopLemmas.{begins}
use Rattle.common_terms.proofs.FoundLemmas.{below_grown, within_grown, item_in, item_below, drop_past, one_more}
use Rattle.common_terms.proofs.OneTurns.{Coming, one_stops, one_kept, one_goes, one_ends}
use Rattle.common_terms.proofs.meeting.meet_one.Goals as goal

pub loop-y-init : goal.loop-y-init
loop-y-init g c = record { comes = begins; kept = kept_itself _ _ _ _; stands = c.requires.stands; within = λ n fixed items found. found }

pub meet-requires : goal.meet-requires
meet-requires g c =
    let start = c.args.arena.now in
    let entries = g.E.Env.entries c.args.env.now start.nodes in
    let names = g.E.Env.names c.args.env.now in
    let at = c.loop-y in
    let inv = at.invariant in
    let item = c.y-item.result in
    let rest = drop (suc at.y-index) c.args.ys.now in
    let cons : drop at.y-index c.args.ys.now ≡ item ∷ rest = item_in c.args.ys.now at.y-index item c.loop-y-test.true c.y-item.is in
    let here = item_below (length start.nodes) at.y-index c.args.ys.now item rest c.requires.second cons in
    let all = inv.within (length start.nodes) c.requires.first c.requires.second c.requires.found in
    λ k. ((refl, tt), (inv.stands, (below_grown start at.arena inv.kept.extends c.args.x.now.ty c.requires.first, (below_grown start at.arena inv.kept.extends item.ty here, within_grown start at.arena inv.kept.extends at.found.keys all))))

pub returns-in_err-meet-clause-exact : goal.returns-in_err-meet-clause-exact
returns-in_err-meet-clause-exact g c =
    let start = c.args.arena.now in
    let entries = g.E.Env.entries c.args.env.now start.nodes in
    let names = g.E.Env.names c.args.env.now in
    let at = c.loop-y in
    let inv = at.invariant in
    let item = c.y-item.result in
    let rest = drop (suc at.y-index) c.args.ys.now in
    let cons : drop at.y-index c.args.ys.now ≡ item ∷ rest = item_in c.args.ys.now at.y-index item c.loop-y-test.true c.y-item.is in
    let here = item_below (length start.nodes) at.y-index c.args.ys.now item rest c.requires.second cons in
    let all = inv.within (length start.nodes) c.requires.first c.requires.second c.requires.found in
    let comes = subst (λ (l : List Code). Coming g.C.Covering.covered g.C.Covering.opens g.C.Covering.asks entries names start c.args.x.now c.args.ys.now c.args.found.now.keys l at.found.keys) cons inv.comes in
    let p = err_from_is_err_and c.from_residual.result c.from_residual.ensures.1 in
    rw (p.1, p.2) (one_stops g.C.Covering.covered g.C.Covering.opens g.C.Covering.asks entries names start c.args.x.now c.args.ys.now c.args.found.now.keys (g.E.Env.entries at.env at.arena.nodes) (g.E.Env.names at.env) inv.kept.entries inv.kept.names _ _ at.arena inv.kept c.requires.first item rest at.found.keys here all comes (g.E.Env.full c.meet.new.env) c.in_err-meet.field-0.0 c.meet.new.found.keys c.in_err-meet.ensures.exact)

pub returns-in_err-meet-clause-kept : goal.returns-in_err-meet-clause-kept
returns-in_err-meet-clause-kept g c =
    let start = c.args.arena.now in
    let entries = g.E.Env.entries c.args.env.now start.nodes in
    let names = g.E.Env.names c.args.env.now in
    let at = c.loop-y in
    let inv = at.invariant in
    let item = c.y-item.result in
    let rest = drop (suc at.y-index) c.args.ys.now in
    let cons : drop at.y-index c.args.ys.now ≡ item ∷ rest = item_in c.args.ys.now at.y-index item c.loop-y-test.true c.y-item.is in
    let here = item_below (length start.nodes) at.y-index c.args.ys.now item rest c.requires.second cons in
    let all = inv.within (length start.nodes) c.requires.first c.requires.second c.requires.found in
    let comes = subst (λ (l : List Code). Coming g.C.Covering.covered g.C.Covering.opens g.C.Covering.asks entries names start c.args.x.now c.args.ys.now c.args.found.now.keys l at.found.keys) cons inv.comes in
    one_kept g.C.Covering.covered g.C.Covering.opens g.C.Covering.asks entries names start c.args.x.now c.args.ys.now c.args.found.now.keys (g.E.Env.entries at.env at.arena.nodes) (g.E.Env.names at.env) inv.kept.entries inv.kept.names _ _ at.arena inv.kept c.requires.first item rest at.found.keys here all comes _ c.meet.new.arena c.in_err-meet.ensures.kept

pub loop-y-preserved : goal.loop-y-preserved
loop-y-preserved g c =
    let start = c.args.arena.now in
    let entries = g.E.Env.entries c.args.env.now start.nodes in
    let names = g.E.Env.names c.args.env.now in
    let at = c.loop-y in
    let inv = at.invariant in
    let item = c.y-item.result in
    let rest = drop (suc at.y-index) c.args.ys.now in
    let cons : drop at.y-index c.args.ys.now ≡ item ∷ rest = item_in c.args.ys.now at.y-index item c.loop-y-test.true c.y-item.is in
    let here = item_below (length start.nodes) at.y-index c.args.ys.now item rest c.requires.second cons in
    let all = inv.within (length start.nodes) c.requires.first c.requires.second c.requires.found in
    let comes = subst (λ (l : List Code). Coming g.C.Covering.covered g.C.Covering.opens g.C.Covering.asks entries names start c.args.x.now c.args.ys.now c.args.found.now.keys l at.found.keys) cons inv.comes in
    let new = c.meet.new.found.keys in
    let does = c.in_ok-meet.ensures in
    record {
      comes = subst (λ (k : ℕ). Coming g.C.Covering.covered g.C.Covering.opens g.C.Covering.asks entries names start c.args.x.now c.args.ys.now c.args.found.now.keys (drop k c.args.ys.now) new) (one_more at.y-index)
          (one_goes g.C.Covering.covered g.C.Covering.opens g.C.Covering.asks entries names start c.args.x.now c.args.ys.now c.args.found.now.keys (g.E.Env.entries at.env at.arena.nodes) (g.E.Env.names at.env) inv.kept.entries inv.kept.names _ _ at.arena inv.kept c.requires.first item rest at.found.keys here all comes new (does.within (length start.nodes) c.requires.first (item_below (length start.nodes) at.y-index c.args.ys.now item rest c.requires.second cons) (inv.within (length start.nodes) c.requires.first c.requires.second c.requires.found)) does.exact);
      kept = one_kept g.C.Covering.covered g.C.Covering.opens g.C.Covering.asks entries names start c.args.x.now c.args.ys.now c.args.found.now.keys (g.E.Env.entries at.env at.arena.nodes) (g.E.Env.names at.env) inv.kept.entries inv.kept.names _ _ at.arena inv.kept c.requires.first item rest at.found.keys here all comes _ c.meet.new.arena does.kept;
      stands = does.stands_after;
      within = λ n fixed items found. does.within n fixed (item_below n at.y-index c.args.ys.now item rest items cons) (inv.within n fixed items found);
    }

pub returns-clause-exact : goal.returns-clause-exact
returns-clause-exact g c =
    let start = c.args.arena.now in
    let entries = g.E.Env.entries c.args.env.now start.nodes in
    let names = g.E.Env.names c.args.env.now in
    let at = c.loop-y in
    let inv = at.invariant in
    one_ends g.C.Covering.covered g.C.Covering.opens g.C.Covering.asks entries names start c.args.x.now c.args.ys.now c.args.found.now.keys (drop at.y-index c.args.ys.now) at.found.keys inv.comes (drop_past c.args.ys.now at.y-index (omega (arith, c.loop-y-test.false)))
