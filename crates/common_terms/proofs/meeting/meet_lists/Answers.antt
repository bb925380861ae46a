use Rattle.std.proofs.Common.{◌≡◌, ℕ, suc, ◌∷◌, List, length, drop, refl, subst, arith}
use Rattle.std.proofs.lemmas.Result.{err_from_is_err_and}
use Rattle.environments.specs.KeptLaws.{kept_itself}
use Rattle.type_terms.specs.declared.literals.Term.{Term as Code}
use Rattle.common_terms.proofs.LoopLemmas.{begins}
use Rattle.common_terms.proofs.FoundLemmas.{below_grown, within_grown, item_in, item_below, drop_past, one_more}
use Rattle.common_terms.proofs.ListsTurns.{Coming, lists_stops, lists_kept, lists_goes, lists_ends}
use Rattle.common_terms.proofs.meeting.meet_lists.Goals as goal

pub loop-x-init : goal.loop-x-init
loop-x-init g c = record { comes = begins; kept = kept_itself _ _ _ _; stands = c.requires.stands; within = λ n fixed items found. found }

pub meet_one-requires : goal.meet_one-requires
meet_one-requires g c =
    let start = c.args.arena.now in
    let entries = g.E.Env.entries c.args.env.now start.nodes in
    let names = g.E.Env.names c.args.env.now in
    let at = c.loop-x in
    let inv = at.invariant in
    let item = c.x-item.result in
    let rest = drop (suc at.x-index) c.args.xs.now in
    let cons : drop at.x-index c.args.xs.now ≡ item ∷ rest = item_in c.args.xs.now at.x-index item c.loop-x-test.true c.x-item.is in
    let here = item_below (length start.nodes) at.x-index c.args.xs.now item rest c.requires.first cons in
    let all = inv.within (length start.nodes) c.requires.second c.requires.first c.requires.found in
    λ k. ((refl, tt), (inv.stands, (below_grown start at.arena inv.kept.extends item.ty here, (within_grown start at.arena inv.kept.extends c.args.ys.now c.requires.second, within_grown start at.arena inv.kept.extends at.found.keys all))))

pub returns-in_err-meet_one-clause-exact : goal.returns-in_err-meet_one-clause-exact
returns-in_err-meet_one-clause-exact g c =
    let start = c.args.arena.now in
    let entries = g.E.Env.entries c.args.env.now start.nodes in
    let names = g.E.Env.names c.args.env.now in
    let at = c.loop-x in
    let inv = at.invariant in
    let item = c.x-item.result in
    let rest = drop (suc at.x-index) c.args.xs.now in
    let cons : drop at.x-index c.args.xs.now ≡ item ∷ rest = item_in c.args.xs.now at.x-index item c.loop-x-test.true c.x-item.is in
    let here = item_below (length start.nodes) at.x-index c.args.xs.now item rest c.requires.first cons in
    let all = inv.within (length start.nodes) c.requires.second c.requires.first c.requires.found in
    let comes = subst (λ (l : List Code). Coming g.C.Covering.covered g.C.Covering.opens g.C.Covering.asks entries names start c.args.ys.now c.args.xs.now c.args.found.now.keys l at.found.keys) cons inv.comes in
    let p = err_from_is_err_and c.from_residual.result c.from_residual.ensures.1 in
    rw (p.1, p.2) (lists_stops g.C.Covering.covered g.C.Covering.opens g.C.Covering.asks entries names start c.args.ys.now c.args.xs.now c.args.found.now.keys (g.E.Env.entries at.env at.arena.nodes) (g.E.Env.names at.env) inv.kept.entries inv.kept.names _ _ at.arena inv.kept c.requires.second item rest at.found.keys here all comes (g.E.Env.full c.meet_one.new.env) c.in_err-meet_one.field-0.0 c.meet_one.new.found.keys c.in_err-meet_one.ensures.exact)

pub returns-in_err-meet_one-clause-kept : goal.returns-in_err-meet_one-clause-kept
returns-in_err-meet_one-clause-kept g c =
    let start = c.args.arena.now in
    let entries = g.E.Env.entries c.args.env.now start.nodes in
    let names = g.E.Env.names c.args.env.now in
    let at = c.loop-x in
    let inv = at.invariant in
    let item = c.x-item.result in
    let rest = drop (suc at.x-index) c.args.xs.now in
    let cons : drop at.x-index c.args.xs.now ≡ item ∷ rest = item_in c.args.xs.now at.x-index item c.loop-x-test.true c.x-item.is in
    let here = item_below (length start.nodes) at.x-index c.args.xs.now item rest c.requires.first cons in
    let all = inv.within (length start.nodes) c.requires.second c.requires.first c.requires.found in
    let comes = subst (λ (l : List Code). Coming g.C.Covering.covered g.C.Covering.opens g.C.Covering.asks entries names start c.args.ys.now c.args.xs.now c.args.found.now.keys l at.found.keys) cons inv.comes in
    lists_kept g.C.Covering.covered g.C.Covering.opens g.C.Covering.asks entries names start c.args.ys.now c.args.xs.now c.args.found.now.keys (g.E.Env.entries at.env at.arena.nodes) (g.E.Env.names at.env) inv.kept.entries inv.kept.names _ _ at.arena inv.kept c.requires.second item rest at.found.keys here all comes _ c.meet_one.new.arena c.in_err-meet_one.ensures.kept

pub loop-x-preserved : goal.loop-x-preserved
loop-x-preserved g c =
    let start = c.args.arena.now in
    let entries = g.E.Env.entries c.args.env.now start.nodes in
    let names = g.E.Env.names c.args.env.now in
    let at = c.loop-x in
    let inv = at.invariant in
    let item = c.x-item.result in
    let rest = drop (suc at.x-index) c.args.xs.now in
    let cons : drop at.x-index c.args.xs.now ≡ item ∷ rest = item_in c.args.xs.now at.x-index item c.loop-x-test.true c.x-item.is in
    let here = item_below (length start.nodes) at.x-index c.args.xs.now item rest c.requires.first cons in
    let all = inv.within (length start.nodes) c.requires.second c.requires.first c.requires.found in
    let comes = subst (λ (l : List Code). Coming g.C.Covering.covered g.C.Covering.opens g.C.Covering.asks entries names start c.args.ys.now c.args.xs.now c.args.found.now.keys l at.found.keys) cons inv.comes in
    let new = c.meet_one.new.found.keys in
    let does = c.in_ok-meet_one.ensures in
    record {
      comes = subst (λ (k : ℕ). Coming g.C.Covering.covered g.C.Covering.opens g.C.Covering.asks entries names start c.args.ys.now c.args.xs.now c.args.found.now.keys (drop k c.args.xs.now) new) (one_more at.x-index)
          (lists_goes g.C.Covering.covered g.C.Covering.opens g.C.Covering.asks entries names start c.args.ys.now c.args.xs.now c.args.found.now.keys (g.E.Env.entries at.env at.arena.nodes) (g.E.Env.names at.env) inv.kept.entries inv.kept.names _ _ at.arena inv.kept c.requires.second item rest at.found.keys here all comes new (does.within (length start.nodes) (item_below (length start.nodes) at.x-index c.args.xs.now item rest c.requires.first cons) c.requires.second (inv.within (length start.nodes) c.requires.second c.requires.first c.requires.found)) does.exact);
      kept = lists_kept g.C.Covering.covered g.C.Covering.opens g.C.Covering.asks entries names start c.args.ys.now c.args.xs.now c.args.found.now.keys (g.E.Env.entries at.env at.arena.nodes) (g.E.Env.names at.env) inv.kept.entries inv.kept.names _ _ at.arena inv.kept c.requires.second item rest at.found.keys here all comes _ c.meet_one.new.arena does.kept;
      stands = does.stands_after;
      within = λ n fixed items found. does.within n (item_below n at.x-index c.args.xs.now item rest items cons) fixed (inv.within n fixed items found);
    }

pub returns-clause-exact : goal.returns-clause-exact
returns-clause-exact g c =
    let start = c.args.arena.now in
    let entries = g.E.Env.entries c.args.env.now start.nodes in
    let names = g.E.Env.names c.args.env.now in
    let at = c.loop-x in
    let inv = at.invariant in
    lists_ends g.C.Covering.covered g.C.Covering.opens g.C.Covering.asks entries names start c.args.ys.now c.args.xs.now c.args.found.now.keys (drop at.x-index c.args.xs.now) at.found.keys inv.comes (drop_past c.args.xs.now at.x-index (omega (arith, c.loop-x-test.false)))

pub returns-clause-within : goal.returns-clause-within
returns-clause-within g c n first second found = c.loop-x.invariant.within n second first found
