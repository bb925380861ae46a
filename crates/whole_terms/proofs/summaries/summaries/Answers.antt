use Rattle.std.proofs.Common.{rules, ◌≡◌, [], None, Ok, refl, ap, sym, subst}
use Rattle.std.specs.List.{Contains}
use Rattle.std.proofs.lemmas.Result.{err_from_is_err_and}
use Rattle.environments.specs.KeptLaws.{kept_itself, kept_again, kept_more}
use Rattle.whole_terms.specs.Tables.{Table, table_of}
use Rattle.whole_terms.specs.Summaries.{Tells}
use Rattle.whole_terms.proofs.SummaryLemmas.{none_told, asked_in_order, opened_in_order, adds_free, more_told}
use Rattle.whole_terms.proofs.ParameterLemmas.{take_whole}
use Rattle.whole_terms.proofs.summaries.summaries.Goals as goal

pub loop-place-init : goal.loop-place-init
loop-place-init g c =
    let entries = g.E.Env.entries c.args.env.now c.args.arena.now.nodes in
    let none : c.new-table.result.entries ≡ [] = search rules in
    (subst (λ l. Tells entries [] (table_of l)) (sym none) (none_told entries (λ q decl is. (g.met.E.Env c.lifetimes (search rules)).proper c.args.env.now c.args.arena.now.nodes q decl c.requires.stands is) (table_of []) (λ q. refl)), kept_itself _ _ _ _, c.requires.stands)

pub returns-in_err-add-clause-free : goal.returns-in_err-add-clause-free
returns-in_err-add-clause-free g c =
    let entries = g.E.Env.entries c.args.env.now c.args.arena.now.nodes in
    let is = c.loop-place.invariant in
    let p = err_from_is_err_and c.from_residual.result c.from_residual.ensures.1 in
    rw (p.1, p.2) (adds_free entries c.args.order.now.keys c.requires.ranked c.loop-place.place c.in-Some.q.now (sym c.in-Some.ensures.key) _ is.1.entries
    (table_of c.loop-place.table.entries) (table_of c.add.new.table.entries) c.args.arena.now c.loop-place.arena (g.E.Env.full c.add.new.env) c.in_err-add.field-0.0 is.1.extends is.1.adds c.in_err-add.ensures.adds)

pub returns-in_err-add-clause-kept : goal.returns-in_err-add-clause-kept
returns-in_err-add-clause-kept g c =
    let entries = g.E.Env.entries c.args.env.now c.args.arena.now.nodes in
    let is = c.loop-place.invariant in
    kept_again _ _ _ _ _ _ _ _ is.1 (kept_more _ _ _ _ _ _ _ _
    (asked_in_order entries c.args.order.now.keys c.requires.ranked c.loop-place.place c.in-Some.q.now (sym c.in-Some.ensures.key) _ is.1.entries)
    (opened_in_order entries c.args.order.now.keys c.requires.ranked c.loop-place.place c.in-Some.q.now (sym c.in-Some.ensures.key) _ is.1.entries)
    c.in_err-add.ensures.kept)

pub loop-place-preserved : goal.loop-place-preserved
loop-place-preserved g c =
    let entries = g.E.Env.entries c.args.env.now c.args.arena.now.nodes in
    let is = c.loop-place.invariant in
    let does = c.in_ok-add.ensures in (
      more_told entries c.args.order.now.keys c.requires.ranked c.loop-place.place c.in-Some.q.now (sym c.in-Some.ensures.key) _ is.1.entries
          (λ q decl at. (g.met.E.Env c.lifetimes (search rules)).proper c.args.env.now c.args.arena.now.nodes q decl c.requires.stands at)
          (table_of c.loop-place.table.entries) (table_of c.add.new.table.entries) c.loop-place.arena (g.E.Env.full c.add.new.env) is.0 does.adds,
      kept_again _ _ _ _ _ _ _ _ is.1 (kept_more _ _ _ _ _ _ _ _
          (asked_in_order entries c.args.order.now.keys c.requires.ranked c.loop-place.place c.in-Some.q.now (sym c.in-Some.ensures.key) _ is.1.entries)
          (opened_in_order entries c.args.order.now.keys c.requires.ranked c.loop-place.place c.in-Some.q.now (sym c.in-Some.ensures.key) _ is.1.entries)
          does.kept),
      does.stands_after,
    )
