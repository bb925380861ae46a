use Rattle.std.proofs.Common.{rules, ◌≡◌, None, Some, ap, sym, subst, ◌∙◌}
use Rattle.std.proofs.lemmas.Result.{err_from_is_err_and}
use Rattle.environments.specs.KeptLaws.{kept_again, kept_more}
use Rattle.type_terms.specs.Denotation.{tree}
use Rattle.type_terms.specs.Extensions.{extends_tree, extends_again}
use Rattle.type_sets.specs.TermTests.{holds}
use Rattle.whole_terms.specs.Tables.{by_table, table_of, looked, ended}
use Rattle.whole_terms.proofs.WholeLemmas.{order_asked, order_opened, summaries_stop, second, breach_stops}
use Rattle.whole_terms.proofs.testing.whole.Goals as goal

pub returns-in_err-table-clause-exact : goal.returns-in_err-table-clause-exact
returns-in_err-table-clause-exact g c =
    let entries = g.E.Env.entries c.args.env.now c.args.arena.now.nodes in
    let names = g.E.Env.names c.args.env.now in
    let type = tree c.args.arena.now.nodes c.args.node in
    let first = c.in_ok-order.ensures in
    let p = err_from_is_err_and c.from_residual-in_err-table.result c.from_residual-in_err-table.ensures.1 in
    rw (p.1, p.2) (summaries_stop entries names type c.in_ok-order.order.keys first.ordered _ first.kept.entries c.args.arena.now c.ordered_aliases.new.arena (g.E.Env.full c.summaries.new.env) c.in_err-table.field-0.0 first.kept.extends first.kept.adds c.in_err-table.ensures.free)

pub returns-in_err-table-clause-kept : goal.returns-in_err-table-clause-kept
returns-in_err-table-clause-kept g c =
    let entries = g.E.Env.entries c.args.env.now c.args.arena.now.nodes in
    let names = g.E.Env.names c.args.env.now in
    let type = tree c.args.arena.now.nodes c.args.node in
    let first = c.in_ok-order.ensures in
    kept_again _ _ _ _ _ _ _ _ first.kept (kept_more _ _ _ _ _ _ _ _ (order_asked entries names type c.in_ok-order.order.keys first.ordered _ first.kept.entries) (order_opened entries names type c.in_ok-order.order.keys first.ordered _ first.kept.entries) c.in_err-table.ensures.kept)

pub returns-in_default-clause-kept : goal.returns-in_default-clause-kept
returns-in_default-clause-kept g c =
    let entries = g.E.Env.entries c.args.env.now c.args.arena.now.nodes in
    let names = g.E.Env.names c.args.env.now in
    let type = tree c.args.arena.now.nodes c.args.node in
    let first = c.in_ok-order.ensures in
    kept_again _ _ _ _ _ _ _ _ first.kept (kept_more _ _ _ _ _ _ _ _ (order_asked entries names type c.in_ok-order.order.keys first.ordered _ first.kept.entries) (order_opened entries names type c.in_ok-order.order.keys first.ordered _ first.kept.entries) c.in_ok-table.ensures.kept)

pub returns-in-None-clause-exact : goal.returns-in-None-clause-exact
returns-in-None-clause-exact g c =
    let entries = g.E.Env.entries c.args.env.now c.args.arena.now.nodes in
    let names = g.E.Env.names c.args.env.now in
    let type = tree c.args.arena.now.nodes c.args.node in
    let first = c.in_ok-order.ensures in
    let table = table_of c.in_ok-table.table.entries in
    let found = c.in-Ok.found in
    let grown = extends_again c.args.arena.now c.ordered_aliases.new.arena c.summaries.new.arena first.kept.extends c.in_ok-table.ensures.kept.extends in
    let same = extends_tree c.args.arena.now c.summaries.new.arena grown c.args.node c.requires.there in
    second entries names type c.in_ok-order.order.keys first.ordered _ first.kept.entries table c.in_ok-table.ensures.told first.exact found.looks.keys found.breach
    (λ given. subst (λ t. holds (by_table table) given t ≡ looked given found.looks.keys found.breach) same (c.in-Ok.ensures given))
    ∙ ap ended c.in-None.is

pub returns-in-None-clause-kept : goal.returns-in-None-clause-kept
returns-in-None-clause-kept g c =
    let entries = g.E.Env.entries c.args.env.now c.args.arena.now.nodes in
    let names = g.E.Env.names c.args.env.now in
    let type = tree c.args.arena.now.nodes c.args.node in
    let first = c.in_ok-order.ensures in
    kept_again _ _ _ _ _ _ _ _ first.kept (kept_more _ _ _ _ _ _ _ _ (order_asked entries names type c.in_ok-order.order.keys first.ordered _ first.kept.entries) (order_opened entries names type c.in_ok-order.order.keys first.ordered _ first.kept.entries) c.in_ok-table.ensures.kept)

pub returns-clause-exact : goal.returns-clause-exact
returns-clause-exact g c =
    let entries = g.E.Env.entries c.args.env.now c.args.arena.now.nodes in
    let names = g.E.Env.names c.args.env.now in
    let type = tree c.args.arena.now.nodes c.args.node in
    let first = c.in_ok-order.ensures in
    let table = table_of c.in_ok-table.table.entries in
    let found = c.in-Ok.found in
    let grown = extends_again c.args.arena.now c.ordered_aliases.new.arena c.summaries.new.arena first.kept.extends c.in_ok-table.ensures.kept.extends in
    let same = extends_tree c.args.arena.now c.summaries.new.arena grown c.args.node c.requires.there in
    let is = second entries names type c.in_ok-order.order.keys first.ordered _ first.kept.entries table c.in_ok-table.ensures.told first.exact found.looks.keys found.breach
    (λ given. subst (λ t. holds (by_table table) given t ≡ looked given found.looks.keys found.breach) same (c.in-Ok.ensures given))
    ∙ ap ended c.in-Some.is in
    rw c.fault.ensures (breach_stops _ _ _ c.in-Some.breach _ is)

pub returns-clause-kept : goal.returns-clause-kept
returns-clause-kept g c =
    let entries = g.E.Env.entries c.args.env.now c.args.arena.now.nodes in
    let names = g.E.Env.names c.args.env.now in
    let type = tree c.args.arena.now.nodes c.args.node in
    let first = c.in_ok-order.ensures in
    kept_again _ _ _ _ _ _ _ _ first.kept (kept_more _ _ _ _ _ _ _ _ (order_asked entries names type c.in_ok-order.order.keys first.ordered _ first.kept.entries) (order_opened entries names type c.in_ok-order.order.keys first.ordered _ first.kept.entries) c.in_ok-table.ensures.kept)
