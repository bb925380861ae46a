use Rattle.std.proofs.Common.{rules, ◌≡◌, ◌∙◌, [], length, take, ap, sym, subst}
use Rattle.std.proofs.lemmas.Result.{err_from_is_err_and}
use Rattle.environments.specs.KeptLaws.{kept_itself, kept_again, kept_more}
use Rattle.term_tests.proofs.ListLemmas.{none_of}
use Rattle.right_sides.specs.Tables.{AreWithin, table_of}
use Rattle.right_sides.specs.Readings.{AreTold}
use Rattle.right_sides.proofs.ParameterLemmas.{take_whole}
use Rattle.right_sides.proofs.ReadingLemmas.{none_within, asked_in_order, opened_in_order, adds_free, more_told, more_within}
use Rattle.right_sides.proofs.reading.read_all.Goals as goal

pub loop-place-init : goal.loop-place-init
loop-place-init g c =
    let none : c.new-rights.result.entries ≡ [] = search rules in
    (λ q held. absurd (none_of q held), subst (AreWithin (length c.args.arena.now.nodes)) (sym none) (none_within (length c.args.arena.now.nodes)), kept_itself _ _ _ _, c.requires.stands)

pub returns-in_err-add-clause-free : goal.returns-in_err-add-clause-free
returns-in_err-add-clause-free g c =
    let entries = g.E.Env.entries c.args.env.now c.args.arena.now.nodes in
    let is = c.loop-place.invariant in
    let p = err_from_is_err_and c.from_residual.result c.from_residual.ensures.1 in
    rw (p.1, p.2) (adds_free entries c.args.order.now.keys c.requires.ranked c.loop-place.place c.in-Some.q.now (sym c.in-Some.ensures.key) _ is.2.entries
    c.loop-place.rights.entries c.add.new.rights.entries c.args.arena.now c.loop-place.arena c.add.new.arena (g.E.Env.full c.add.new.env) c.in_err-add.field-0.0 is.2.extends is.2.adds c.in_err-add.ensures.adds)

pub returns-in_err-add-clause-kept : goal.returns-in_err-add-clause-kept
returns-in_err-add-clause-kept g c =
    let entries = g.E.Env.entries c.args.env.now c.args.arena.now.nodes in
    let is = c.loop-place.invariant in
    kept_again _ _ _ _ _ _ _ _ is.2 (kept_more _ _ _ _ _ _ _ _
    (asked_in_order entries c.args.order.now.keys c.requires.ranked c.loop-place.place c.in-Some.q.now (sym c.in-Some.ensures.key) _ is.2.entries)
    (opened_in_order entries c.args.order.now.keys c.requires.ranked c.loop-place.place c.in-Some.q.now (sym c.in-Some.ensures.key) _ is.2.entries)
    c.in_err-add.ensures.kept)

pub loop-place-preserved : goal.loop-place-preserved
loop-place-preserved g c =
    let entries = g.E.Env.entries c.args.env.now c.args.arena.now.nodes in
    let is = c.loop-place.invariant in
    let does = c.in_ok-add.ensures in (
      more_told entries c.args.order.now.keys c.requires.ranked c.loop-place.place c.in-Some.q.now (sym c.in-Some.ensures.key) _ is.2.entries
          (λ q decl at. (g.met.E.Env c.lifetimes (search rules)).proper c.args.env.now c.args.arena.now.nodes q decl c.requires.stands at)
          c.loop-place.rights.entries c.add.new.rights.entries c.loop-place.arena c.add.new.arena (g.E.Env.full c.add.new.env) does.kept.extends is.1 does.adds is.0,
      more_within entries c.args.order.now.keys c.requires.ranked c.loop-place.place c.in-Some.q.now (sym c.in-Some.ensures.key) _ is.2.entries
          (λ q decl at. (g.met.E.Env c.lifetimes (search rules)).proper c.args.env.now c.args.arena.now.nodes q decl c.requires.stands at)
          c.loop-place.rights.entries c.add.new.rights.entries c.loop-place.arena c.add.new.arena (g.E.Env.full c.add.new.env) does.kept.extends is.1 does.adds,
      kept_again _ _ _ _ _ _ _ _ is.2 (kept_more _ _ _ _ _ _ _ _
          (asked_in_order entries c.args.order.now.keys c.requires.ranked c.loop-place.place c.in-Some.q.now (sym c.in-Some.ensures.key) _ is.2.entries)
          (opened_in_order entries c.args.order.now.keys c.requires.ranked c.loop-place.place c.in-Some.q.now (sym c.in-Some.ensures.key) _ is.2.entries)
          does.kept),
      does.stands_after,
    )

pub returns-clause-told : goal.returns-clause-told
returns-clause-told g c =
    let entries = g.E.Env.entries c.args.env.now c.args.arena.now.nodes in
    let order = c.args.order.now.keys in
    let full : c.loop-place.place ≡ length order = search rules in
    subst (λ l. AreTold entries l (table_of c.loop-place.arena.nodes c.loop-place.rights.entries)) (ap (λ n. take n order) full ∙ take_whole order) c.loop-place.invariant.0
