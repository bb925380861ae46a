use Rattle.std.proofs.Common.{rules, ◌≡◌, None, Ok, refl, subst}
use Rattle.std.proofs.lemmas.Result.{err_from_is_err_and}
use Rattle.type_terms.specs.Denotation.{tree}
use Rattle.replacement.specs.Calls.{Leads}
use Rattle.environments.specs.KeptLaws.{kept_again, kept_more}
use Rattle.replacement.proofs.ExpandingLemmas.{are_names, turns, falls, head_asked, later_opened, led_on, stopped, ended}
use Rattle.replacement.proofs.expanding.expand.Goals as goal

pub returns-in_err-next-clause-exact : goal.returns-in_err-next-clause-exact
returns-in_err-next-clause-exact g c =
    let entries = g.E.Env.entries c.args.env.now c.args.arena.now.nodes in
    let names = g.E.Env.names c.args.env.now in
    let are = are_names entries names ((g.met.E.Env c.lifetimes (search rules)).finite c.args.env.now c.args.arena.now.nodes) in
    let is = c.loop-met.invariant in
    let p = err_from_is_err_and c.from_residual.result c.from_residual.ensures.1 in
    rw (p.1, p.2) (stopped entries names are _ _ _ is.0 _ is.1.entries c.follow.new.met.keys c.loop-met.arena c.follow.new.arena (g.E.Env.full c.follow.new.env) c.args.arena.now is.1.extends is.1.adds c.in_err-next.field-0.0 c.in_err-next.ensures.exact)

pub returns-in_err-next-clause-kept : goal.returns-in_err-next-clause-kept
returns-in_err-next-clause-kept g c =
    let entries = g.E.Env.entries c.args.env.now c.args.arena.now.nodes in
    let names = g.E.Env.names c.args.env.now in
    let are = are_names entries names ((g.met.E.Env c.lifetimes (search rules)).finite c.args.env.now c.args.arena.now.nodes) in
    let is = c.loop-met.invariant in
    kept_again _ _ _ _ _ _ _ _ is.1 (kept_more _ _ _ _ _ _ _ _ (head_asked entries names are _ _ _ is.0) (later_opened entries names are _ _ _ is.0 _ is.1.entries c.follow.new.met.keys c.loop-met.arena c.follow.new.arena (g.E.Env.full c.follow.new.env)) c.in_err-next.ensures.kept)

pub loop-met-smaller : goal.loop-met-smaller
loop-met-smaller g c =
    let entries = g.E.Env.entries c.args.env.now c.args.arena.now.nodes in
    let names = g.E.Env.names c.args.env.now in
    let are = are_names entries names ((g.met.E.Env c.lifetimes (search rules)).finite c.args.env.now c.args.arena.now.nodes) in
    let is = c.loop-met.invariant in
    let at = c.loop-met in
    let leads = subst (λ o. Leads (g.E.Env.entries at.env at.arena.nodes) at.met.keys (tree at.arena.nodes at.found) c.follow.new.met.keys at.arena c.follow.new.arena (g.E.Env.full c.follow.new.env) (Ok o)) c.in-Some.is c.in_ok-next.ensures.exact in
    let goes = led_on entries names are _ _ _ is.0 _ is.1.entries c.follow.new.met.keys at.arena c.follow.new.arena (g.E.Env.full c.follow.new.env) c.in-Some.next leads in
    falls entries names are _ _ _ is.0 _ _ goes

pub loop-met-preserved : goal.loop-met-preserved
loop-met-preserved g c =
    let entries = g.E.Env.entries c.args.env.now c.args.arena.now.nodes in
    let names = g.E.Env.names c.args.env.now in
    let are = are_names entries names ((g.met.E.Env c.lifetimes (search rules)).finite c.args.env.now c.args.arena.now.nodes) in
    let is = c.loop-met.invariant in
    let at = c.loop-met in
    let does = c.in_ok-next.ensures in
    let leads = subst (λ o. Leads (g.E.Env.entries at.env at.arena.nodes) at.met.keys (tree at.arena.nodes at.found) c.follow.new.met.keys at.arena c.follow.new.arena (g.E.Env.full c.follow.new.env) (Ok o)) c.in-Some.is does.exact in
    let goes = led_on entries names are _ _ _ is.0 _ is.1.entries c.follow.new.met.keys at.arena c.follow.new.arena (g.E.Env.full c.follow.new.env) c.in-Some.next leads in (
      turns entries names are _ _ _ is.0 _ _ goes,
      kept_again _ _ _ _ _ _ _ _ is.1 (kept_more _ _ _ _ _ _ _ _ (head_asked entries names are _ _ _ is.0) (later_opened entries names are _ _ _ is.0 _ is.1.entries c.follow.new.met.keys c.loop-met.arena c.follow.new.arena (g.E.Env.full c.follow.new.env)) does.kept),
      does.stands_after,
      leads.1,
    )

pub returns-clause-exact : goal.returns-clause-exact
returns-clause-exact g c =
    let entries = g.E.Env.entries c.args.env.now c.args.arena.now.nodes in
    let names = g.E.Env.names c.args.env.now in
    let are = are_names entries names ((g.met.E.Env c.lifetimes (search rules)).finite c.args.env.now c.args.arena.now.nodes) in
    let is = c.loop-met.invariant in
    let at = c.loop-met in
    let does = c.in_ok-next.ensures in
    let none : c.in_ok-next.field-0 ≡ None = search rules in
    let leads = subst (λ o. Leads (g.E.Env.entries at.env at.arena.nodes) at.met.keys (tree at.arena.nodes at.found) c.follow.new.met.keys at.arena c.follow.new.arena (g.E.Env.full c.follow.new.env) (Ok o)) none does.exact in
    ended entries names are _ _ _ is.0 _ is.1.entries c.follow.new.met.keys at.arena c.follow.new.arena (g.E.Env.full c.follow.new.env) c.args.arena.now at.found refl does.kept.extends is.3 leads

pub returns-clause-kept : goal.returns-clause-kept
returns-clause-kept g c =
    let entries = g.E.Env.entries c.args.env.now c.args.arena.now.nodes in
    let names = g.E.Env.names c.args.env.now in
    let are = are_names entries names ((g.met.E.Env c.lifetimes (search rules)).finite c.args.env.now c.args.arena.now.nodes) in
    let is = c.loop-met.invariant in
    kept_again _ _ _ _ _ _ _ _ is.1 (kept_more _ _ _ _ _ _ _ _ (head_asked entries names are _ _ _ is.0) (later_opened entries names are _ _ _ is.0 _ is.1.entries c.follow.new.met.keys c.loop-met.arena c.follow.new.arena (g.E.Env.full c.follow.new.env)) c.in_ok-next.ensures.kept)
