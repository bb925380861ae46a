use Rattle.std.proofs.Common.{subst}
use Rattle.environments.specs.Kept.{world, Kept}
use Rattle.replacement.specs.Calls.{Gives}
use Rattle.type_terms.specs.Denotation.{tree}
use Rattle.opened_interfaces.specs.Calls.{settled_for}
use Rattle.opened_interfaces.specs.Ways.{asks, opened_for, AtTerm}
use Rattle.opened_interfaces.proofs.looking.settle_part.Goals as goal

pub returns-clause-exact : goal.returns-clause-exact
returns-clause-exact g c =
    let nodes = c.args.arena.now.nodes in
    let entries = g.E.Env.entries c.args.env.now nodes in
    let names = g.E.Env.names c.args.env.now in
    let type = tree nodes c.args.part.now.term.ty in
    subst (λ b. Gives (AtTerm entries names (opened_for entries) b type) c.args.arena.now c.settle.new.arena (g.E.Env.full c.settle.new.env) c.settle.result (settled_for entries names b type))
    c.is_tested-tested.ensures c.settle.ensures.exact

pub returns-clause-kept : goal.returns-clause-kept
returns-clause-kept g c =
    let nodes = c.args.arena.now.nodes in
    let entries = g.E.Env.entries c.args.env.now nodes in
    let names = g.E.Env.names c.args.env.now in
    let type = tree nodes c.args.part.now.term.ty in
    let after = c.settle.new.arena in
    let env = c.settle.new.env in
    subst (λ b. Kept (AtTerm entries names (asks entries) b type) (AtTerm entries names (opened_for entries) b type)
    (world entries names (g.E.Env.packages c.args.env.now) (g.E.Env.asked c.args.env.now))
    (world (g.E.Env.entries env after.nodes) (g.E.Env.names env) (g.E.Env.packages env) (g.E.Env.asked env)) c.args.arena.now after)
    c.is_tested-tested.ensures c.settle.ensures.kept
