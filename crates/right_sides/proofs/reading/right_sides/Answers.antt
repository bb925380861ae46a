use Rattle.std.proofs.Common.{rules, ◌≡◌, length, sym, subst}
use Rattle.std.proofs.lemmas.Result.{err_from_is_err_and}
use Rattle.environments.specs.KeptLaws.{kept_again, kept_more}
use Rattle.type_terms.specs.Denotation.{tree}
use Rattle.right_sides.specs.Tables.{table_of}
use Rattle.right_sides.specs.Readings.{CoversAlike}
use Rattle.right_sides.proofs.ReadingLemmas.{order_asked, order_opened, read_stops, read_covers}
use Rattle.right_sides.proofs.reading.right_sides.Goals as goal

pub returns-in_err-sides-clause-exact : goal.returns-in_err-sides-clause-exact
returns-in_err-sides-clause-exact g c =
    let entries = g.E.Env.entries c.args.env.now c.args.arena.now.nodes in
    let names = g.E.Env.names c.args.env.now in
    let type = tree c.args.arena.now.nodes c.args.node in
    let first = c.in_ok-order.ensures in
    let p = err_from_is_err_and c.from_residual-in_err-sides.result c.from_residual-in_err-sides.ensures.1 in
    rw (p.1, p.2) (read_stops entries names type c.in_ok-order.order.keys first.ordered _ first.kept.entries c.args.arena.now c.ordered_aliases.new.arena (g.E.Env.full c.read_all.new.env) c.in_err-sides.field-0.0 first.kept.extends first.kept.adds c.in_err-sides.ensures.free)

pub returns-in_err-sides-clause-kept : goal.returns-in_err-sides-clause-kept
returns-in_err-sides-clause-kept g c =
    let entries = g.E.Env.entries c.args.env.now c.args.arena.now.nodes in
    let names = g.E.Env.names c.args.env.now in
    let type = tree c.args.arena.now.nodes c.args.node in
    let first = c.in_ok-order.ensures in
    kept_again _ _ _ _ _ _ _ _ first.kept (kept_more _ _ _ _ _ _ _ _ (order_asked entries names type c.in_ok-order.order.keys first.ordered _ first.kept.entries) (order_opened entries names type c.in_ok-order.order.keys first.ordered _ first.kept.entries) c.in_err-sides.ensures.kept)

pub returns-clause-covers : goal.returns-clause-covers
returns-clause-covers g c =
    let entries = g.E.Env.entries c.args.env.now c.args.arena.now.nodes in
    let names = g.E.Env.names c.args.env.now in
    let type = tree c.args.arena.now.nodes c.args.node in
    let first = c.in_ok-order.ensures in
    let table = table_of c.read_all.new.arena.nodes c.in_ok-sides.sides.entries in
    let many : c.len.result ≡ length c.in_ok-order.order.keys = search rules in
    subst (CoversAlike entries names type table) (sym many) (read_covers entries names type c.in_ok-order.order.keys first.ordered _ first.kept.entries table c.in_ok-sides.ensures.told)

pub returns-clause-kept : goal.returns-clause-kept
returns-clause-kept g c =
    let entries = g.E.Env.entries c.args.env.now c.args.arena.now.nodes in
    let names = g.E.Env.names c.args.env.now in
    let type = tree c.args.arena.now.nodes c.args.node in
    let first = c.in_ok-order.ensures in
    kept_again _ _ _ _ _ _ _ _ first.kept (kept_more _ _ _ _ _ _ _ _ (order_asked entries names type c.in_ok-order.order.keys first.ordered _ first.kept.entries) (order_opened entries names type c.in_ok-order.order.keys first.ordered _ first.kept.entries) c.in_ok-sides.ensures.kept)
