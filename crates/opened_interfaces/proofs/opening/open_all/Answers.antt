use Rattle.std.proofs.Common.{rules, ◌≡◌, suc, ◌-◌, Err, None}
use Rattle.std.proofs.lemmas.Result.{err_from_is_err_and}
use Rattle.environments.specs.KeptLaws.{kept_itself, kept_again, kept_more}
use Rattle.interface_nodes.specs.HeldNodes.{meant}
use Rattle.interface_opener.specs.Numbered.{state}
use Rattle.interface_opener.specs.Stacked.{stacked}
use Rattle.type_terms.specs.Denotation.{tree}
use Rattle.opened_interfaces.specs.Meant.{known_meant, due_meant}
use Rattle.opened_interfaces.proofs.LoopLemmas.{limit_is, opening_begins, opening_stops, opening_ends, opening_full, opening_goes, all_asked, all_opened, next_told, some_next, none_next}
use Rattle.opened_interfaces.proofs.opening.open_all.Goals as goal

pub loop-met-init : goal.loop-met-init
loop-met-init g c = (opening_begins _ _ _ _ 65536 limit_is, kept_itself _ _ _ _, c.requires.stands, c.requires.runs)

pub returns-in_err-met-clause-exact : goal.returns-in_err-met-clause-exact
returns-in_err-met-clause-exact g c =
    let nodes = c.args.arena.now.nodes in
    let entries = g.E.Env.entries c.args.env.now nodes in
    let names = g.E.Env.names c.args.env.now in
    let first = due_meant nodes (stacked c.args.run.now.tasks.items) in
    let began = known_meant nodes (state c.args.run.now.found) in
    let at = c.loop-met in
    let is = at.invariant in
    let items = due_meant at.arena.nodes (stacked at.run.tasks.items) in
    let s = known_meant at.arena.nodes (state at.run.found) in
    let later = g.E.Env.entries at.env at.arena.nodes in
    let more = g.E.Env.names at.env in
    let after = c.search.new.arena in
    let run = c.search.new.run in
    let full = g.E.Env.full c.search.new.env in
    let does = c.in_err-met.ensures in
    let p = err_from_is_err_and c.from_residual.result c.from_residual.ensures.1 in
    rw (p.1, p.2) (opening_stops entries names first began at.left items s is.0 c.args.arena.now at.arena after is.1.extends is.1.adds full c.in_err-met.field-0.0 run
    (next_told entries names first began at.left items s is.0 later more is.1.entries is.1.names at.arena after full (Err c.in_err-met.field-0.0) run (does.exact at.left)))

pub returns-in_err-met-clause-kept : goal.returns-in_err-met-clause-kept
returns-in_err-met-clause-kept g c =
    let nodes = c.args.arena.now.nodes in
    let entries = g.E.Env.entries c.args.env.now nodes in
    let names = g.E.Env.names c.args.env.now in
    let first = due_meant nodes (stacked c.args.run.now.tasks.items) in
    let began = known_meant nodes (state c.args.run.now.found) in
    let at = c.loop-met in
    let is = at.invariant in
    let items = due_meant at.arena.nodes (stacked at.run.tasks.items) in
    let s = known_meant at.arena.nodes (state at.run.found) in
    let later = g.E.Env.entries at.env at.arena.nodes in
    let more = g.E.Env.names at.env in
    let after = c.search.new.arena in
    let run = c.search.new.run in
    let full = g.E.Env.full c.search.new.env in
    let does = c.in_err-met.ensures in
    kept_again _ _ _ _ _ _ _ _ is.1 (kept_more _ _ _ _ _ _ _ _ (all_asked entries names first began at.left items s is.0 later more is.1.entries is.1.names) (all_opened entries names first began at.left items s is.0 later more is.1.entries is.1.names) (does.kept at.left))

pub returns-then-left-eq0-clause-exact : goal.returns-then-left-eq0-clause-exact
returns-then-left-eq0-clause-exact g c =
    let nodes = c.args.arena.now.nodes in
    let entries = g.E.Env.entries c.args.env.now nodes in
    let names = g.E.Env.names c.args.env.now in
    let first = due_meant nodes (stacked c.args.run.now.tasks.items) in
    let began = known_meant nodes (state c.args.run.now.found) in
    let at = c.loop-met in
    let is = at.invariant in
    let items = due_meant at.arena.nodes (stacked at.run.tasks.items) in
    let s = known_meant at.arena.nodes (state at.run.found) in
    let later = g.E.Env.entries at.env at.arena.nodes in
    let more = g.E.Env.names at.env in
    let after = c.search.new.arena in
    let run = c.search.new.run in
    let full = g.E.Env.full c.search.new.env in
    let does = c.in_ok-met.ensures in
    let met = c.in-Some.met in
    let told = some_next entries names first began at.left items s is.0 later more is.1.entries is.1.names at.arena after full c.in_ok-met.field-0 run (does.exact at.left) met c.in-Some.is in
    let none : at.left ≡ 0 = search rules in
    opening_full entries names first began at.left items s is.0 (tree after.nodes met.ty) (meant after.nodes met.name met.held) (known_meant after.nodes (state run.found)) (due_meant after.nodes (stacked run.tasks.items)) told.0 none

pub returns-then-left-eq0-clause-kept : goal.returns-then-left-eq0-clause-kept
returns-then-left-eq0-clause-kept g c =
    let nodes = c.args.arena.now.nodes in
    let entries = g.E.Env.entries c.args.env.now nodes in
    let names = g.E.Env.names c.args.env.now in
    let first = due_meant nodes (stacked c.args.run.now.tasks.items) in
    let began = known_meant nodes (state c.args.run.now.found) in
    let at = c.loop-met in
    let is = at.invariant in
    let items = due_meant at.arena.nodes (stacked at.run.tasks.items) in
    let s = known_meant at.arena.nodes (state at.run.found) in
    let later = g.E.Env.entries at.env at.arena.nodes in
    let more = g.E.Env.names at.env in
    let after = c.search.new.arena in
    let run = c.search.new.run in
    let full = g.E.Env.full c.search.new.env in
    let does = c.in_ok-met.ensures in
    kept_again _ _ _ _ _ _ _ _ is.1 (kept_more _ _ _ _ _ _ _ _ (all_asked entries names first began at.left items s is.0 later more is.1.entries is.1.names) (all_opened entries names first began at.left items s is.0 later more is.1.entries is.1.names) (does.kept at.left))

pub open_met-requires-clause-runs : goal.open_met-requires-clause-runs
open_met-requires-clause-runs g c =
    let nodes = c.args.arena.now.nodes in
    let entries = g.E.Env.entries c.args.env.now nodes in
    let names = g.E.Env.names c.args.env.now in
    let first = due_meant nodes (stacked c.args.run.now.tasks.items) in
    let began = known_meant nodes (state c.args.run.now.found) in
    let at = c.loop-met in
    let is = at.invariant in
    let items = due_meant at.arena.nodes (stacked at.run.tasks.items) in
    let s = known_meant at.arena.nodes (state at.run.found) in
    let later = g.E.Env.entries at.env at.arena.nodes in
    let more = g.E.Env.names at.env in
    let after = c.search.new.arena in
    let run = c.search.new.run in
    let full = g.E.Env.full c.search.new.env in
    let does = c.in_ok-met.ensures in
    let met = c.in-Some.met in
    let told = some_next entries names first began at.left items s is.0 later more is.1.entries is.1.names at.arena after full c.in_ok-met.field-0 run (does.exact at.left) met c.in-Some.is in
    told.1

pub open_met-requires-clause-met : goal.open_met-requires-clause-met
open_met-requires-clause-met g c =
    let nodes = c.args.arena.now.nodes in
    let entries = g.E.Env.entries c.args.env.now nodes in
    let names = g.E.Env.names c.args.env.now in
    let first = due_meant nodes (stacked c.args.run.now.tasks.items) in
    let began = known_meant nodes (state c.args.run.now.found) in
    let at = c.loop-met in
    let is = at.invariant in
    let items = due_meant at.arena.nodes (stacked at.run.tasks.items) in
    let s = known_meant at.arena.nodes (state at.run.found) in
    let later = g.E.Env.entries at.env at.arena.nodes in
    let more = g.E.Env.names at.env in
    let after = c.search.new.arena in
    let run = c.search.new.run in
    let full = g.E.Env.full c.search.new.env in
    let does = c.in_ok-met.ensures in
    let met = c.in-Some.met in
    let told = some_next entries names first began at.left items s is.0 later more is.1.entries is.1.names at.arena after full c.in_ok-met.field-0 run (does.exact at.left) met c.in-Some.is in
    told.2

pub loop-met-preserved : goal.loop-met-preserved
loop-met-preserved g c =
    let nodes = c.args.arena.now.nodes in
    let entries = g.E.Env.entries c.args.env.now nodes in
    let names = g.E.Env.names c.args.env.now in
    let first = due_meant nodes (stacked c.args.run.now.tasks.items) in
    let began = known_meant nodes (state c.args.run.now.found) in
    let at = c.loop-met in
    let is = at.invariant in
    let items = due_meant at.arena.nodes (stacked at.run.tasks.items) in
    let s = known_meant at.arena.nodes (state at.run.found) in
    let later = g.E.Env.entries at.env at.arena.nodes in
    let more = g.E.Env.names at.env in
    let after = c.search.new.arena in
    let run = c.search.new.run in
    let full = g.E.Env.full c.search.new.env in
    let does = c.in_ok-met.ensures in
    let met = c.in-Some.met in
    let told = some_next entries names first began at.left items s is.0 later more is.1.entries is.1.names at.arena after full c.in_ok-met.field-0 run (does.exact at.left) met c.in-Some.is in
    let done = c.in-Ok.ensures in
    let one : at.left ≡ suc (at.left - 1) = search rules in (
      opening_goes entries names first began at.left items s is.0 (tree after.nodes met.ty) (meant after.nodes met.name met.held) (known_meant after.nodes (state run.found)) (due_meant after.nodes (stacked run.tasks.items)) told.0 (at.left - 1) one _ _ (done.due entries names) (done.known entries names),
      kept_again _ _ _ _ _ _ _ _ is.1 (kept_more _ _ _ _ _ _ _ _ (all_asked entries names first began at.left items s is.0 later more is.1.entries is.1.names) (all_opened entries names first began at.left items s is.0 later more is.1.entries is.1.names) (does.kept at.left)),
      does.stands_after,
      done.runs,
    )

pub returns-in_default-open_met-clause-kept : goal.returns-in_default-open_met-clause-kept
returns-in_default-open_met-clause-kept g c =
    let nodes = c.args.arena.now.nodes in
    let entries = g.E.Env.entries c.args.env.now nodes in
    let names = g.E.Env.names c.args.env.now in
    let first = due_meant nodes (stacked c.args.run.now.tasks.items) in
    let began = known_meant nodes (state c.args.run.now.found) in
    let at = c.loop-met in
    let is = at.invariant in
    let items = due_meant at.arena.nodes (stacked at.run.tasks.items) in
    let s = known_meant at.arena.nodes (state at.run.found) in
    let later = g.E.Env.entries at.env at.arena.nodes in
    let more = g.E.Env.names at.env in
    let after = c.search.new.arena in
    let run = c.search.new.run in
    let full = g.E.Env.full c.search.new.env in
    let does = c.in_ok-met.ensures in
    kept_again _ _ _ _ _ _ _ _ is.1 (kept_more _ _ _ _ _ _ _ _ (all_asked entries names first began at.left items s is.0 later more is.1.entries is.1.names) (all_opened entries names first began at.left items s is.0 later more is.1.entries is.1.names) (does.kept at.left))

pub returns-clause-exact : goal.returns-clause-exact
returns-clause-exact g c =
    let nodes = c.args.arena.now.nodes in
    let entries = g.E.Env.entries c.args.env.now nodes in
    let names = g.E.Env.names c.args.env.now in
    let first = due_meant nodes (stacked c.args.run.now.tasks.items) in
    let began = known_meant nodes (state c.args.run.now.found) in
    let at = c.loop-met in
    let is = at.invariant in
    let items = due_meant at.arena.nodes (stacked at.run.tasks.items) in
    let s = known_meant at.arena.nodes (state at.run.found) in
    let later = g.E.Env.entries at.env at.arena.nodes in
    let more = g.E.Env.names at.env in
    let after = c.search.new.arena in
    let run = c.search.new.run in
    let full = g.E.Env.full c.search.new.env in
    let does = c.in_ok-met.ensures in
    let none : c.in_ok-met.field-0 ≡ None = search rules in
    let told = none_next entries names first began at.left items s is.0 later more is.1.entries is.1.names at.arena after full c.in_ok-met.field-0 run (does.exact at.left) none in
    (opening_ends entries names first began at.left items s is.0 (known_meant after.nodes (state run.found)) told.0, told.1)

pub returns-clause-kept : goal.returns-clause-kept
returns-clause-kept g c =
    let nodes = c.args.arena.now.nodes in
    let entries = g.E.Env.entries c.args.env.now nodes in
    let names = g.E.Env.names c.args.env.now in
    let first = due_meant nodes (stacked c.args.run.now.tasks.items) in
    let began = known_meant nodes (state c.args.run.now.found) in
    let at = c.loop-met in
    let is = at.invariant in
    let items = due_meant at.arena.nodes (stacked at.run.tasks.items) in
    let s = known_meant at.arena.nodes (state at.run.found) in
    let later = g.E.Env.entries at.env at.arena.nodes in
    let more = g.E.Env.names at.env in
    let after = c.search.new.arena in
    let run = c.search.new.run in
    let full = g.E.Env.full c.search.new.env in
    let does = c.in_ok-met.ensures in
    kept_again _ _ _ _ _ _ _ _ is.1 (kept_more _ _ _ _ _ _ _ _ (all_asked entries names first began at.left items s is.0 later more is.1.entries is.1.names) (all_opened entries names first began at.left items s is.0 later more is.1.entries is.1.names) (does.kept at.left))
