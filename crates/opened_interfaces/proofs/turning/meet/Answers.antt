use Rattle.std.proofs.Common.{ap, sym, subst, ◌∙◌, length, Ok, arith}
use Rattle.std.specs.Prelude.{IfSome, option_map}
use Rattle.std.proofs.lemmas.Result.{err_from_is_err_and}
use Rattle.interface_nodes.specs.HeldNodes.{meant, held_nodes}
use Rattle.interface_opener.specs.Numbered.{state}
use Rattle.interface_opener.specs.Stacked.{stacked}
use Rattle.interface_opening.specs.Opening.{goes}
use Rattle.type_sets.specs.TypeSets.{name_of}
use Rattle.type_terms.specs.Arenas.{AllBelow}
use Rattle.type_terms.specs.Denotation.{tree}
use Rattle.type_terms.specs.Extensions.{extends_longer}
use Rattle.opened_interfaces.specs.Calls.{IsRun}
use Rattle.opened_interfaces.specs.Meant.{known_meant}
use Rattle.opened_interfaces.proofs.LookLemmas.{meet_stops, term_goes, term_runs, interface_opens, interface_runs}
use Rattle.opened_interfaces.proofs.turning.meet.Goals as goal

pub returns-in_err-held-clause-exact : goal.returns-in_err-held-clause-exact
returns-in_err-held-clause-exact g c runs name_is closed new =
    let nodes = c.args.arena.now.nodes in
    let entries = g.E.Env.entries c.args.env.now nodes in
    let names = g.E.Env.names c.args.env.now in
    let part = c.args.part.now in
    let p = err_from_is_err_and c.from_residual.result c.from_residual.ensures.1 in
    rw (p.1, p.2) (meet_stops entries names (tree nodes part.holder) part.term.tilde (tree nodes part.term.ty) (tree nodes c.args.x) (known_meant nodes (state c.args.run.now.found))
    (name_of entries names (tree nodes c.args.x)) _ c.args.arena.now c.look_beneath.new.arena (g.E.Env.full c.look_beneath.new.env) c.in_err-held.field-0.0 c.in_err-held.ensures.exact)

pub returns-in_ok-put_join-in-Some-clause-exact : goal.returns-in_ok-put_join-in-Some-clause-exact
returns-in_ok-put_join-in-Some-clause-exact g c runs name_is closed new =
    let nodes = c.args.arena.now.nodes in
    let entries = g.E.Env.entries c.args.env.now nodes in
    let names = g.E.Env.names c.args.env.now in
    let part = c.args.part.now in
    let run = c.args.run.now in
    let after = c.look_beneath.new.arena in
    let does = c.in_ok-held.ensures in
    let longer = extends_longer c.args.arena.now after does.kept.extends in
    let there = c.requires.there in
    let is = does.exact.0 ∙ ap (λ o. Ok (option_map (meant after.nodes (name_of entries names (tree nodes c.args.x))) o)) c.in-Some.is in (
      interface_opens entries names c.args.arena.now after does.kept.extends part (stacked run.tasks.items) (state run.found) run.entered.keys runs c.args.x there c.args.name name_is c.in-Some.held is,
      subst (λ l. IsRun (length after.nodes) (state run.found) l run.entered.keys) (sym c.in_ok-put_join-in-Some.ensures.put)
          (interface_runs entries names c.args.arena.now after does.kept.extends part (stacked run.tasks.items) (state run.found) run.entered.keys runs c.args.x there),
      record {
        there = omega (arith, there, longer);
        held = subst (λ o. IfSome o (λ x. AllBelow (length after.nodes) (held_nodes x))) c.in-Some.is does.exact.1;
        new = new;
        closed = closed;
      },
    )

pub returns-in_ok-note_term-in-None-clause-exact : goal.returns-in_ok-note_term-in-None-clause-exact
returns-in_ok-note_term-in-None-clause-exact g c runs name_is closed new =
    let nodes = c.args.arena.now.nodes in
    let entries = g.E.Env.entries c.args.env.now nodes in
    let names = g.E.Env.names c.args.env.now in
    let part = c.args.part.now in
    let run = c.args.run.now in
    let after = c.look_beneath.new.arena in
    let does = c.in_ok-held.ensures in
    let noted = sym c.in_ok-note_term-in-None.ensures.noted in
    let is = does.exact.0 ∙ ap (λ o. Ok (option_map (meant after.nodes (name_of entries names (tree nodes c.args.x))) o)) c.in-None.is in (
      term_goes entries names c.args.arena.now after does.kept.extends part (stacked run.tasks.items) (state run.found) run.entered.keys runs c.args.x c.requires.there is
          ∙ ap (λ s. goes (known_meant after.nodes s)) noted,
      subst (λ s. IsRun (length after.nodes) s (stacked run.tasks.items) run.entered.keys) noted
          (term_runs entries names c.args.arena.now after does.kept.extends part (stacked run.tasks.items) (state run.found) run.entered.keys runs c.args.x c.requires.there),
    )
