use Rattle.std.proofs.Common.{◌∷◌, ap, sym, subst, ◌∙◌}
use Rattle.std.proofs.lemmas.Result.{err_from_is_err_and}
use Rattle.environments.specs.Kept.{world, Kept}
use Rattle.interface_opener.specs.Numbered.{state}
use Rattle.interface_opener.specs.Stacked.{item_of, stacked, open_names}
use Rattle.interface_opening.specs.Opening.{step}
use Rattle.type_sets.specs.TypeSets.{looks}
use Rattle.type_terms.specs.Denotation.{tree}
use Rattle.opened_interfaces.specs.Calls.{GivesStep}
use Rattle.opened_interfaces.specs.Meant.{known_meant, due_meant, item_mapped}
use Rattle.opened_interfaces.specs.Ways.{asks, opened_for, AtItem}
use Rattle.opened_interfaces.proofs.GivesLemmas.{join_stops}
use Rattle.opened_interfaces.proofs.turning.turn.Goals as goal

pub returns-in_err-join_known-in-Joins-clause-exact :
    goal.returns-in_err-join_known-in-Joins-clause-exact
returns-in_err-join_known-in-Joins-clause-exact g c =
    let nodes = c.args.arena.now.nodes in
    let entries = g.E.Env.entries c.args.env.now nodes in
    let names = g.E.Env.names c.args.env.now in
    let run = c.args.run.now in
    let same = ap (λ t. step (looks entries names) (item_mapped (tree nodes) (item_of t)) (due_meant nodes (stacked run.tasks.items)) (known_meant nodes (state run.found))) c.in-Joins.is in
    let p = err_from_is_err_and c.from_residual.result c.from_residual.ensures.1 in
    rw (p.1, p.2) (join_stops _ c.args.arena.now (g.E.Env.full c.args.env.now) nodes c.join_known.new.found _ _ same c.in_err-join_known-in-Joins.field-0.0 (c.in_err-join_known-in-Joins.ensures.exact entries names))

pub returns-in-Term-clause-exact : goal.returns-in-Term-clause-exact
returns-in-Term-clause-exact g c =
    let nodes = c.args.arena.now.nodes in
    let entries = g.E.Env.entries c.args.env.now nodes in
    let names = g.E.Env.names c.args.env.now in
    let run = c.args.run.now in
    subst (λ t. GivesStep (AtItem entries names (opened_for entries) (item_mapped (tree nodes) (item_of t))) c.args.arena.now c.look.new.arena (g.E.Env.full c.look.new.env) c.look.result c.look.new.run
    (step (looks entries names) (item_mapped (tree nodes) (item_of t)) (due_meant nodes (stacked run.tasks.items)) (known_meant nodes (state run.found)))) (sym c.in-Term.is) c.look.ensures.exact

pub returns-in-Term-clause-kept : goal.returns-in-Term-clause-kept
returns-in-Term-clause-kept g c =
    let nodes = c.args.arena.now.nodes in
    let entries = g.E.Env.entries c.args.env.now nodes in
    let names = g.E.Env.names c.args.env.now in
    let after = c.look.new.arena in
    let env = c.look.new.env in
    subst (λ t. Kept (AtItem entries names (asks entries) (item_mapped (tree nodes) (item_of t))) (AtItem entries names (opened_for entries) (item_mapped (tree nodes) (item_of t)))
    (world entries names (g.E.Env.packages c.args.env.now) (g.E.Env.asked c.args.env.now))
    (world (g.E.Env.entries env after.nodes) (g.E.Env.names env) (g.E.Env.packages env) (g.E.Env.asked env)) c.args.arena.now after) (sym c.in-Term.is) c.look.ensures.kept

pub returns-in_ok-join_known-in-Joins-clause-exact :
    goal.returns-in_ok-join_known-in-Joins-clause-exact
returns-in_ok-join_known-in-Joins-clause-exact g c =
    let nodes = c.args.arena.now.nodes in
    let entries = g.E.Env.entries c.args.env.now nodes in
    let names = g.E.Env.names c.args.env.now in
    let run = c.args.run.now in
    let same = ap (λ t. step (looks entries names) (item_mapped (tree nodes) (item_of t)) (due_meant nodes (stacked run.tasks.items)) (known_meant nodes (state run.found))) c.in-Joins.is in
    let exact = c.in_ok-join_known-in-Joins.ensures.exact entries names in (
      same ∙ exact.0,
      record {
        known = exact.1;
        due = c.requires.runs.due.1;
        open_is = c.requires.runs.open_is ∙ ap (λ t. open_names (item_of t ∷ stacked run.tasks.items)) c.in-Joins.is;
      },
    )
