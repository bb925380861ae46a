use Rattle.std.proofs.Common.{rules, ◌≡◌, true, false, sym, ◌∙◌, ◌∷◌, length}
use Rattle.std.specs.Prelude.{nat_eq}
use Rattle.std.specs.List.{list_any}
use Rattle.std.proofs.lemmas.Result.{err_from_is_err_and}
use Rattle.environments.specs.KeptLaws.{kept_again, kept_more}
use Rattle.interface_opener.specs.Numbered.{state}
use Rattle.interface_opener.specs.Stacked.{stacked}
use Rattle.type_terms.specs.Extensions.{extends_longer}
use Rattle.opened_interfaces.specs.Calls.{part_item}
use Rattle.opened_interfaces.proofs.GivesLemmas.{join_stops}
use Rattle.opened_interfaces.proofs.StayLemmas.{within_more, due_more}
use Rattle.opened_interfaces.proofs.LookLemmas.{look_stops, look_open, when_known, look_gives, shown_asked, shown_opened, run_more}
use Rattle.opened_interfaces.proofs.turning.look.Goals as goal

pub returns-in_err-x-clause-exact : goal.returns-in_err-x-clause-exact
returns-in_err-x-clause-exact g c =
    let nodes = c.args.arena.now.nodes in
    let entries = g.E.Env.entries c.args.env.now nodes in
    let names = g.E.Env.names c.args.env.now in
    let part = c.args.part.now in
    let run = c.args.run.now in
    let due = stacked run.tasks.items in
    let s = state run.found in
    let p = err_from_is_err_and c.from_residual.result c.from_residual.ensures.1 in
    rw (p.1, p.2) (look_stops entries names c.args.arena.now c.settle_part.new.arena part due s (g.E.Env.full c.settle_part.new.env) c.in_err-x.field-0.0 c.in_err-x.ensures.exact)

pub returns-in_err-x-clause-kept : goal.returns-in_err-x-clause-kept
returns-in_err-x-clause-kept g c = c.in_err-x.ensures.kept

pub returns-in_default-clause-kept : goal.returns-in_default-clause-kept
returns-in_default-clause-kept g c = c.in_ok-x.ensures.kept

pub returns-in_err-name-clause-exact : goal.returns-in_err-name-clause-exact
returns-in_err-name-clause-exact g c =
    let nodes = c.args.arena.now.nodes in
    let entries = g.E.Env.entries c.args.env.now nodes in
    let names = g.E.Env.names c.args.env.now in
    let part = c.args.part.now in
    let run = c.args.run.now in
    let due = stacked run.tasks.items in
    let s = state run.found in
    let before = c.args.arena.now in
    let middle = c.settle_part.new.arena in
    let does = c.in_ok-x.ensures in
    let grown = does.kept.extends in
    let x = c.in_ok-x.x in
    let p = err_from_is_err_and c.from_residual-in_err-name.result c.from_residual-in_err-name.ensures.1 in
    rw (p.1, p.2) (look_open entries names before middle grown c.told_apart.ensures part due s run.entered.keys c.requires.runs x does.exact.1 does.exact.0 _ (g.E.Env.full c.settle_part.new.env) c.in-Ok.name c.in-Ok.ensures c.in_err-name.field-0.0 c.in_err-name.ensures)

pub returns-in_err-name-clause-kept : goal.returns-in_err-name-clause-kept
returns-in_err-name-clause-kept g c = c.in_ok-x.ensures.kept

pub join_known-requires-clause-within : goal.join_known-requires-clause-within
join_known-requires-clause-within g c =
    let nodes = c.args.arena.now.nodes in
    let entries = g.E.Env.entries c.args.env.now nodes in
    let names = g.E.Env.names c.args.env.now in
    let part = c.args.part.now in
    let run = c.args.run.now in
    let due = stacked run.tasks.items in
    let s = state run.found in
    let before = c.args.arena.now in
    let middle = c.settle_part.new.arena in
    let does = c.in_ok-x.ensures in
    let grown = does.kept.extends in
    let x = c.in_ok-x.x in
    within_more (length nodes) (length middle.nodes) (extends_longer before middle grown) s c.requires.runs.known

pub returns-in_err-join_known-clause-exact : goal.returns-in_err-join_known-clause-exact
returns-in_err-join_known-clause-exact g c =
    let nodes = c.args.arena.now.nodes in
    let entries = g.E.Env.entries c.args.env.now nodes in
    let names = g.E.Env.names c.args.env.now in
    let part = c.args.part.now in
    let run = c.args.run.now in
    let due = stacked run.tasks.items in
    let s = state run.found in
    let before = c.args.arena.now in
    let middle = c.settle_part.new.arena in
    let does = c.in_ok-x.ensures in
    let grown = does.kept.extends in
    let x = c.in_ok-x.x in
    let name_is = c.in-Ok.ensures ∙ sym c.in_ok-name.ensures.0 in
    let held : list_any (nat_eq x) run.found.types.keys ≡ true = search rules in
    let same = when_known entries names before middle grown c.told_apart.ensures part due s run.entered.keys c.requires.runs x does.exact.1 does.exact.0 c.in_ok-name.name name_is c.in_ok-name.ensures.1 held in
    let p = err_from_is_err_and c.from_residual-in_err-join_known.result c.from_residual-in_err-join_known.ensures.1 in
    rw (p.1, p.2) (join_stops _ before (g.E.Env.full c.settle_part.new.env) middle.nodes c.join_known.new.found _ _ same c.in_err-join_known.field-0.0 (c.in_err-join_known.ensures.exact entries names))

pub returns-in_err-join_known-clause-kept : goal.returns-in_err-join_known-clause-kept
returns-in_err-join_known-clause-kept g c = c.in_ok-x.ensures.kept

pub returns-then-contains-clause-exact : goal.returns-then-contains-clause-exact
returns-then-contains-clause-exact g c =
    let nodes = c.args.arena.now.nodes in
    let entries = g.E.Env.entries c.args.env.now nodes in
    let names = g.E.Env.names c.args.env.now in
    let part = c.args.part.now in
    let run = c.args.run.now in
    let due = stacked run.tasks.items in
    let s = state run.found in
    let before = c.args.arena.now in
    let middle = c.settle_part.new.arena in
    let does = c.in_ok-x.ensures in
    let grown = does.kept.extends in
    let x = c.in_ok-x.x in
    let name_is = c.in-Ok.ensures ∙ sym c.in_ok-name.ensures.0 in
    let held : list_any (nat_eq x) run.found.types.keys ≡ true = search rules in
    let joined = c.in_ok-join_known.ensures.exact entries names in (
      when_known entries names before middle grown c.told_apart.ensures part due s run.entered.keys c.requires.runs x does.exact.1 does.exact.0 c.in_ok-name.name name_is c.in_ok-name.ensures.1 held ∙ joined.0,
      record { known = joined.1; due = due_more (length nodes) (length middle.nodes) (extends_longer before middle grown) due c.requires.runs.due.1; open_is = c.requires.runs.open_is },
    )

pub returns-then-contains-clause-kept : goal.returns-then-contains-clause-kept
returns-then-contains-clause-kept g c = c.in_ok-x.ensures.kept

pub returns-clause-exact : goal.returns-clause-exact
returns-clause-exact g c =
    let nodes = c.args.arena.now.nodes in
    let entries = g.E.Env.entries c.args.env.now nodes in
    let names = g.E.Env.names c.args.env.now in
    let part = c.args.part.now in
    let run = c.args.run.now in
    let due = stacked run.tasks.items in
    let s = state run.found in
    let before = c.args.arena.now in
    let middle = c.settle_part.new.arena in
    let does = c.in_ok-x.ensures in
    let grown = does.kept.extends in
    let x = c.in_ok-x.x in
    let held : list_any (nat_eq x) run.found.types.keys ≡ false = search rules in
    let name_is = c.in-Ok.ensures ∙ sym c.in_ok-name.ensures.0 in
    look_gives entries names before middle grown c.told_apart.ensures part due s run.entered.keys c.requires.runs x does.exact.1 does.exact.0 (g.E.Env.entries c.settle_part.new.env middle.nodes) (g.E.Env.names c.settle_part.new.env) does.kept.entries does.kept.names
    c.in_ok-name.name name_is c.in_ok-name.ensures.1 held c.meet.new.arena does.kept.adds (g.E.Env.full c.meet.new.env) c.meet.result c.meet.new.run
    (c.meet.ensures.exact (run_more before middle grown s (part_item part ∷ due) run.entered.keys c.requires.runs) name_is c.in_ok-name.ensures.1 held)

pub returns-clause-kept : goal.returns-clause-kept
returns-clause-kept g c =
    let nodes = c.args.arena.now.nodes in
    let entries = g.E.Env.entries c.args.env.now nodes in
    let names = g.E.Env.names c.args.env.now in
    let part = c.args.part.now in
    let run = c.args.run.now in
    let due = stacked run.tasks.items in
    let s = state run.found in
    let before = c.args.arena.now in
    let middle = c.settle_part.new.arena in
    let does = c.in_ok-x.ensures in
    let grown = does.kept.extends in
    let x = c.in_ok-x.x in
    kept_again _ _ _ _ _ _ _ _ does.kept (kept_more _ _ _ _ _ _ _ _
    (shown_asked entries names before middle grown c.told_apart.ensures part due s run.entered.keys c.requires.runs x does.exact.1 does.exact.0 (g.E.Env.entries c.settle_part.new.env middle.nodes) (g.E.Env.names c.settle_part.new.env) does.kept.entries does.kept.names)
    (shown_opened entries names before middle grown c.told_apart.ensures part due s run.entered.keys c.requires.runs x does.exact.1 does.exact.0 (g.E.Env.entries c.settle_part.new.env middle.nodes) (g.E.Env.names c.settle_part.new.env) does.kept.entries does.kept.names)
    c.meet.ensures.kept)
