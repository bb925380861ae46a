use Rattle.std.proofs.lemmas.Result.{err_from_is_err_and}
use Rattle.type_terms.specs.Denotation.{tree}
use Rattle.replacement.proofs.UnderlyingLemmas.{under_stops, under_first, under_gives, under_kept}
use Rattle.replacement.proofs.underlying.under.Goals as goal

pub returns-in_err-found-clause-exact : goal.returns-in_err-found-clause-exact
returns-in_err-found-clause-exact g c =
    let nodes = c.args.arena.now.nodes in
    let p = err_from_is_err_and c.from_residual.result c.from_residual.ensures.1 in
    rw (p.1, p.2) (under_stops (g.E.Env.entries c.args.env.now nodes) (g.E.Env.names c.args.env.now) (tree nodes c.args.node) c.args.arena.now c.expand.new.arena (g.E.Env.full c.expand.new.env) c.in_err-found.field-0.0 c.in_err-found.ensures.exact)

pub returns-in_err-found-clause-kept : goal.returns-in_err-found-clause-kept
returns-in_err-found-clause-kept g c =
    let nodes = c.args.arena.now.nodes in
    under_first (g.E.Env.entries c.args.env.now nodes) (g.E.Env.names c.args.env.now) (tree nodes c.args.node) _ _ _ _ c.in_err-found.ensures.kept

pub returns-clause-exact : goal.returns-clause-exact
returns-clause-exact g c =
    let nodes = c.args.arena.now.nodes in
    let does = c.in_ok-found.ensures in
    let between = c.expand.new.arena in
    under_gives (g.E.Env.entries c.args.env.now nodes) (g.E.Env.names c.args.env.now) (tree nodes c.args.node) (tree between.nodes c.in_ok-found.found) does.exact.0
    (g.E.Env.entries c.expand.new.env between.nodes) does.kept.entries c.args.arena.now between c.right_beneath.new.arena does.kept.extends does.kept.adds (g.E.Env.full c.right_beneath.new.env) c.right_beneath.result c.right_beneath.ensures.exact

pub returns-clause-kept : goal.returns-clause-kept
returns-clause-kept g c =
    let nodes = c.args.arena.now.nodes in
    let does = c.in_ok-found.ensures in
    let between = c.expand.new.arena in
    under_kept (g.E.Env.entries c.args.env.now nodes) (g.E.Env.names c.args.env.now) (tree nodes c.args.node) (tree between.nodes c.in_ok-found.found) does.exact.0
    (g.E.Env.entries c.expand.new.env between.nodes) does.kept.entries _ _ _ c.args.arena.now between c.right_beneath.new.arena does.kept c.right_beneath.ensures.kept
