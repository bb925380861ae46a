use Rattle.std.proofs.Common.{rules, ◌≡◌, [], None, Ok, refl, sym, subst}
use Rattle.std.proofs.lemmas.Result.{err_from_is_err_and}
use Rattle.type_terms.specs.Denotation.{tree}
use Rattle.environments.specs.KeptLaws.{kept_itself}
use Rattle.basic_types.specs.Calls.{Turns}
use Rattle.basic_types.proofs.OnTheWay.{IsOnTheWay, begins, turns, falls, stopped_by, led_on, kept_on, full_on, answered}
use Rattle.basic_types.proofs.following.basic_type.Goals as goal

pub loop-met-init : goal.loop-met-init
loop-met-init g c =
    let none : c.new-met.result.keys ≡ [] = search rules in
    let start = tree c.args.arena.now.nodes c.args.node in
    (subst (IsOnTheWay (g.E.Env.entries c.args.env.now c.args.arena.now.nodes) (g.E.Env.names c.args.env.now) start start) (sym none) (begins _ _ _), kept_itself _ _ _ _, c.requires.stands, c.requires.there)

pub returns-in_err-side-clause-answer : goal.returns-in_err-side-clause-answer
returns-in_err-side-clause-answer g c =
    let is = c.loop-met.invariant in
    let p = err_from_is_err_and c.from_residual.result c.from_residual.ensures.1 in
    rw (p.1, p.2) (stopped_by _ _ _ _ _ is.0 _ is.1.entries c.follow.new.met.keys c.follow.new.arena (g.E.Env.full c.follow.new.env) c.in_err-side.field-0.0 c.in_err-side.ensures.turns)

pub returns-in_err-side-clause-kept : goal.returns-in_err-side-clause-kept
returns-in_err-side-clause-kept g c =
    let is = c.loop-met.invariant in
    kept_on _ _ _ _ _ is.0 _ is.1.entries _ _ _ _ _ _ is.1 c.in_err-side.ensures.kept

pub returns-in_err-side-clause-outgrown : goal.returns-in_err-side-clause-outgrown
returns-in_err-side-clause-outgrown g c err =
    let is = c.loop-met.invariant in
    full_on _ _ _ _ _ is.0 _ is.1.entries _ _ _ _ is.1 (c.in_err-side.ensures.outgrown (search rules))

pub loop-met-smaller : goal.loop-met-smaller
loop-met-smaller g c =
    let is = c.loop-met.invariant in
    let at = c.loop-met in
    let leads = subst (λ o. Turns (g.E.Env.entries at.env at.arena.nodes) at.met.keys (tree at.arena.nodes at.found) c.follow.new.met.keys c.follow.new.arena (g.E.Env.full c.follow.new.env) (Ok o)) c.in-Some.is c.in_ok-side.ensures.turns in
    falls (g.E.Env.entries c.args.env.now c.args.arena.now.nodes) (g.E.Env.names c.args.env.now) ((g.met.E.Env c.lifetimes (search rules)).finite c.args.env.now c.args.arena.now.nodes) _ _ _ is.0 _ _
    (led_on _ _ is.1.entries _ _ _ _ leads.0)

pub loop-met-preserved : goal.loop-met-preserved
loop-met-preserved g c =
    let is = c.loop-met.invariant in
    let at = c.loop-met in
    let does = c.in_ok-side.ensures in
    let leads = subst (λ o. Turns (g.E.Env.entries at.env at.arena.nodes) at.met.keys (tree at.arena.nodes at.found) c.follow.new.met.keys c.follow.new.arena (g.E.Env.full c.follow.new.env) (Ok o)) c.in-Some.is does.turns in (
      turns (g.E.Env.entries c.args.env.now c.args.arena.now.nodes) (g.E.Env.names c.args.env.now) ((g.met.E.Env c.lifetimes (search rules)).finite c.args.env.now c.args.arena.now.nodes) _ _ _ is.0 _ _
          (led_on _ _ is.1.entries _ _ _ _ leads.0),
      kept_on _ _ _ _ _ is.0 _ is.1.entries _ _ _ _ _ _ is.1 does.kept,
      does.stands_after,
      leads.1,
    )

pub returns-clause-answer : goal.returns-clause-answer
returns-clause-answer g c =
    let is = c.loop-met.invariant in
    let at = c.loop-met in
    let does = c.in_ok-side.ensures in
    let none : c.in_ok-side.field-0 ≡ None = search rules in
    let leads = subst (λ o. Turns (g.E.Env.entries at.env at.arena.nodes) at.met.keys (tree at.arena.nodes at.found) c.follow.new.met.keys c.follow.new.arena (g.E.Env.full c.follow.new.env) (Ok o)) none does.turns in
    answered _ _ _ _ _ is.0 _ is.1.entries c.follow.new.arena (g.E.Env.full c.follow.new.env) at.arena at.found refl does.kept.extends is.3 leads _ c.predeclared.ensures

pub returns-clause-kept : goal.returns-clause-kept
returns-clause-kept g c =
    let is = c.loop-met.invariant in
    kept_on _ _ _ _ _ is.0 _ is.1.entries _ _ _ _ _ _ is.1 c.in_ok-side.ensures.kept
