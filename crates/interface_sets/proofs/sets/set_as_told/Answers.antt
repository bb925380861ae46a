use Rattle.std.proofs.lemmas.Result.{err_from_is_err_and}
use Rattle.type_terms.specs.Denotation.{tree}
use Rattle.interface_sets.proofs.SetLemmas.{expansion_stops, expansion_kept, rest_gives, rest_kept}
use Rattle.interface_sets.proofs.sets.set_as_told.Goals as goal

pub returns-in_err-found-clause-exact : goal.returns-in_err-found-clause-exact
returns-in_err-found-clause-exact g c =
    let nodes = c.args.arena.now.nodes in
    let p = err_from_is_err_and c.from_residual.result c.from_residual.ensures.1 in
    rw (p.1, p.2) (expansion_stops (g.E.Env.entries c.args.env.now nodes) (g.E.Env.names c.args.env.now) g.C.Covering.covered g.C.Covering.opens g.C.Covering.asks (tree nodes c.args.node) c.args.arena.now c.expand.new.arena (g.E.Env.full c.expand.new.env) c.in_err-found.field-0.0 c.in_err-found.ensures.exact)

pub returns-in_err-found-clause-kept : goal.returns-in_err-found-clause-kept
returns-in_err-found-clause-kept g c =
    let nodes = c.args.arena.now.nodes in
    expansion_kept (g.E.Env.entries c.args.env.now nodes) (g.E.Env.names c.args.env.now) g.C.Covering.covered g.C.Covering.opens g.C.Covering.asks (tree nodes c.args.node) _ _ _ _ c.in_err-found.ensures.kept

pub returns-clause-exact : goal.returns-clause-exact
returns-clause-exact g c =
    let nodes = c.args.arena.now.nodes in
    let does = c.in_ok-found.ensures in
    let between = c.expand.new.arena in
    rest_gives (g.E.Env.entries c.args.env.now nodes) (g.E.Env.names c.args.env.now) g.C.Covering.covered g.C.Covering.opens g.C.Covering.asks (tree nodes c.args.node) (tree between.nodes c.in_ok-found.found) does.exact.0
    (g.E.Env.entries c.expand.new.env between.nodes) (g.E.Env.names c.expand.new.env) does.kept.entries does.kept.names c.args.arena.now between c.settled_set.new.arena does.kept.extends does.kept.adds
    (g.E.Env.full c.settled_set.new.env) c.settled_set.result c.settled_set.ensures.exact

pub returns-clause-kept : goal.returns-clause-kept
returns-clause-kept g c =
    let nodes = c.args.arena.now.nodes in
    let does = c.in_ok-found.ensures in
    let between = c.expand.new.arena in
    rest_kept (g.E.Env.entries c.args.env.now nodes) (g.E.Env.names c.args.env.now) g.C.Covering.covered g.C.Covering.opens g.C.Covering.asks (tree nodes c.args.node) (tree between.nodes c.in_ok-found.found) does.exact.0
    (g.E.Env.entries c.expand.new.env between.nodes) (g.E.Env.names c.expand.new.env) does.kept.entries does.kept.names _ _ _ c.args.arena.now between c.settled_set.new.arena does.kept c.settled_set.ensures.kept
