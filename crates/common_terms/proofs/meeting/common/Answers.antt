use Rattle.std.proofs.Common.{rules, ◌≡◌, true, false, Ok}
use Rattle.std.proofs.lemmas.Result.{err_from_is_err_and}
use Rattle.common_terms.specs.Comparing.{term_meant}
use Rattle.common_terms.proofs.CommonLemmas.{first_stops, first_kept, later_stops, later_kept, later_second, later_none}
use Rattle.common_terms.proofs.meeting.common.Goals as goal

pub returns-in_err-covers-clause-exact : goal.returns-in_err-covers-clause-exact
returns-in_err-covers-clause-exact g c =
    let nodes = c.args.arena.now.nodes in
    let entries = g.E.Env.entries c.args.env.now nodes in
    let names = g.E.Env.names c.args.env.now in
    let p = err_from_is_err_and c.from_residual.result c.from_residual.ensures.1 in
    rw (p.1, p.2) (first_stops (g.C.Covering.covered entries names) (g.C.Covering.opens entries names) (g.C.Covering.asks entries names) (term_meant nodes c.args.x.now) (term_meant nodes c.args.y.now) c.args.arena.now (g.E.Env.full c.covers.new.env) c.in_err-covers.field-0.0 c.in_err-covers.ensures.exact)

pub returns-in_err-covers-clause-kept : goal.returns-in_err-covers-clause-kept
returns-in_err-covers-clause-kept g c =
    let nodes = c.args.arena.now.nodes in
    let entries = g.E.Env.entries c.args.env.now nodes in
    let names = g.E.Env.names c.args.env.now in
    first_kept (g.C.Covering.covered entries names) (g.C.Covering.opens entries names) (g.C.Covering.asks entries names) (term_meant nodes c.args.x.now) (term_meant nodes c.args.y.now) _ _ _ _ c.in_err-covers.ensures.kept

pub returns-then-branch-clause-kept : goal.returns-then-branch-clause-kept
returns-then-branch-clause-kept g c =
    let nodes = c.args.arena.now.nodes in
    let entries = g.E.Env.entries c.args.env.now nodes in
    let names = g.E.Env.names c.args.env.now in
    first_kept (g.C.Covering.covered entries names) (g.C.Covering.opens entries names) (g.C.Covering.asks entries names) (term_meant nodes c.args.x.now) (term_meant nodes c.args.y.now) _ _ _ _ c.in_ok-covers.ensures.kept

pub returns-in_err-covers-2-clause-exact : goal.returns-in_err-covers-2-clause-exact
returns-in_err-covers-2-clause-exact g c =
    let nodes = c.args.arena.now.nodes in
    let entries = g.E.Env.entries c.args.env.now nodes in
    let names = g.E.Env.names c.args.env.now in
    let between = c.covers.new.arena in
    let kept = c.in_ok-covers.ensures.kept in
    let no : g.C.Covering.covered entries names (term_meant nodes c.args.x.now) (term_meant nodes c.args.y.now) ≡ Ok false = search rules in
    let p = err_from_is_err_and c.from_residual-in_err-covers-2.result c.from_residual-in_err-covers-2.ensures.1 in
    rw (p.1, p.2) (later_stops g.C.Covering.covered g.C.Covering.opens g.C.Covering.asks entries (g.E.Env.entries c.covers.new.env between.nodes) names (g.E.Env.names c.covers.new.env) kept.entries kept.names c.args.arena.now between kept.extends c.args.x.now c.args.y.now c.requires.first c.requires.second no kept.adds (g.E.Env.full c.covers-2.new.env) c.in_err-covers-2.field-0.0 c.in_err-covers-2.ensures.exact)

pub returns-in_err-covers-2-clause-kept : goal.returns-in_err-covers-2-clause-kept
returns-in_err-covers-2-clause-kept g c =
    let nodes = c.args.arena.now.nodes in
    let entries = g.E.Env.entries c.args.env.now nodes in
    let names = g.E.Env.names c.args.env.now in
    let between = c.covers.new.arena in
    let kept = c.in_ok-covers.ensures.kept in
    let no : g.C.Covering.covered entries names (term_meant nodes c.args.x.now) (term_meant nodes c.args.y.now) ≡ Ok false = search rules in
    later_kept g.C.Covering.covered g.C.Covering.opens g.C.Covering.asks entries (g.E.Env.entries c.covers.new.env between.nodes) names (g.E.Env.names c.covers.new.env) kept.entries kept.names c.args.arena.now between kept.extends c.args.x.now c.args.y.now c.requires.first c.requires.second no _ _ _ c.covers-2.new.arena kept c.in_err-covers-2.ensures.kept

pub returns-then-branch-2-clause-exact : goal.returns-then-branch-2-clause-exact
returns-then-branch-2-clause-exact g c =
    let nodes = c.args.arena.now.nodes in
    let entries = g.E.Env.entries c.args.env.now nodes in
    let names = g.E.Env.names c.args.env.now in
    let between = c.covers.new.arena in
    let kept = c.in_ok-covers.ensures.kept in
    let no : g.C.Covering.covered entries names (term_meant nodes c.args.x.now) (term_meant nodes c.args.y.now) ≡ Ok false = search rules in
    let is : g.C.Covering.covered (g.E.Env.entries c.covers.new.env between.nodes) (g.E.Env.names c.covers.new.env) (term_meant between.nodes c.args.y.now) (term_meant between.nodes c.args.x.now) ≡ Ok true = search rules in
    later_second g.C.Covering.covered g.C.Covering.opens g.C.Covering.asks entries (g.E.Env.entries c.covers.new.env between.nodes) names (g.E.Env.names c.covers.new.env) kept.entries kept.names c.args.arena.now between kept.extends c.args.x.now c.args.y.now c.requires.first c.requires.second no is

pub returns-then-branch-2-clause-kept : goal.returns-then-branch-2-clause-kept
returns-then-branch-2-clause-kept g c =
    let nodes = c.args.arena.now.nodes in
    let entries = g.E.Env.entries c.args.env.now nodes in
    let names = g.E.Env.names c.args.env.now in
    let between = c.covers.new.arena in
    let kept = c.in_ok-covers.ensures.kept in
    let no : g.C.Covering.covered entries names (term_meant nodes c.args.x.now) (term_meant nodes c.args.y.now) ≡ Ok false = search rules in
    later_kept g.C.Covering.covered g.C.Covering.opens g.C.Covering.asks entries (g.E.Env.entries c.covers.new.env between.nodes) names (g.E.Env.names c.covers.new.env) kept.entries kept.names c.args.arena.now between kept.extends c.args.x.now c.args.y.now c.requires.first c.requires.second no _ _ _ c.covers-2.new.arena kept c.in_ok-covers-2.ensures.kept

pub returns-clause-exact : goal.returns-clause-exact
returns-clause-exact g c =
    let nodes = c.args.arena.now.nodes in
    let entries = g.E.Env.entries c.args.env.now nodes in
    let names = g.E.Env.names c.args.env.now in
    let between = c.covers.new.arena in
    let kept = c.in_ok-covers.ensures.kept in
    let no : g.C.Covering.covered entries names (term_meant nodes c.args.x.now) (term_meant nodes c.args.y.now) ≡ Ok false = search rules in
    let is : g.C.Covering.covered (g.E.Env.entries c.covers.new.env between.nodes) (g.E.Env.names c.covers.new.env) (term_meant between.nodes c.args.y.now) (term_meant between.nodes c.args.x.now) ≡ Ok false = search rules in
    later_none g.C.Covering.covered g.C.Covering.opens g.C.Covering.asks entries (g.E.Env.entries c.covers.new.env between.nodes) names (g.E.Env.names c.covers.new.env) kept.entries kept.names c.args.arena.now between kept.extends c.args.x.now c.args.y.now c.requires.first c.requires.second no is

pub returns-clause-kept : goal.returns-clause-kept
returns-clause-kept g c =
    let nodes = c.args.arena.now.nodes in
    let entries = g.E.Env.entries c.args.env.now nodes in
    let names = g.E.Env.names c.args.env.now in
    let between = c.covers.new.arena in
    let kept = c.in_ok-covers.ensures.kept in
    let no : g.C.Covering.covered entries names (term_meant nodes c.args.x.now) (term_meant nodes c.args.y.now) ≡ Ok false = search rules in
    later_kept g.C.Covering.covered g.C.Covering.opens g.C.Covering.asks entries (g.E.Env.entries c.covers.new.env between.nodes) names (g.E.Env.names c.covers.new.env) kept.entries kept.names c.args.arena.now between kept.extends c.args.x.now c.args.y.now c.requires.first c.requires.second no _ _ _ c.covers-2.new.arena kept c.in_ok-covers-2.ensures.kept
