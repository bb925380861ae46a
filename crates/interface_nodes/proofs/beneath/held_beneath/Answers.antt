use Rattle.std.proofs.Common.{rules, refl}
use Rattle.std.proofs.lemmas.Result.{err_from_is_err_and}
use Rattle.environments.specs.EntryLaws.{extends_env}
use Rattle.type_terms.specs.Additions.{Outgrows}
use Rattle.type_terms.specs.Denotation.{tree}
use Rattle.interface_nodes.specs.HeldNodes.{made_for}
use Rattle.interface_nodes.proofs.BeneathLemmas.{beneath_stops, beneath_first, beneath_held, beneath_full, beneath_kept}
use Rattle.interface_nodes.proofs.beneath.held_beneath.Goals as goal

pub returns-in_err-under-clause-exact : goal.returns-in_err-under-clause-exact
returns-in_err-under-clause-exact g c name =
    let nodes = c.args.arena.now.nodes in
    let p = err_from_is_err_and c.from_residual.result c.from_residual.ensures.1 in
    rw (p.1, p.2) (beneath_stops (g.E.Env.entries c.args.env.now nodes) (tree nodes c.args.node) name c.args.arena.now c.right_beneath.new.arena (g.E.Env.full c.right_beneath.new.env) c.in_err-under.field-0.0 c.in_err-under.ensures.exact)

pub returns-in_err-under-clause-kept : goal.returns-in_err-under-clause-kept
returns-in_err-under-clause-kept g c =
    let nodes = c.args.arena.now.nodes in
    beneath_first (g.E.Env.entries c.args.env.now nodes) (tree nodes c.args.node) _ _ _ _ _ c.in_err-under.ensures.kept

pub returns-in-Ok-clause-exact : goal.returns-in-Ok-clause-exact
returns-in-Ok-clause-exact g c name =
    let nodes = c.args.arena.now.nodes in
    let middle = c.right_beneath.new.arena in
    beneath_held (g.E.Env.entries c.args.env.now nodes) (tree nodes c.args.node) (tree middle.nodes c.in_ok-under.under) c.in_ok-under.ensures.exact.0
    name c.args.arena.now c.held_at.new.arena (g.E.Env.full c.right_beneath.new.env) c.in-Ok.held (c.in-Ok.ensures.exact name) c.in-Ok.ensures.within

pub returns-in-Err-Full-clause-exact : goal.returns-in-Err-Full-clause-exact
returns-in-Err-Full-clause-exact g c name =
    let nodes = c.args.arena.now.nodes in
    let middle = c.right_beneath.new.arena in
    let does = c.in_ok-under.ensures in
    let outgrown : Outgrows middle (made_for (tree middle.nodes c.in_ok-under.under)) = search rules in
    beneath_full (g.E.Env.entries c.args.env.now nodes) (tree nodes c.args.node) (tree middle.nodes c.in_ok-under.under) does.exact.0
    c.args.arena.now middle does.kept.extends does.kept.adds (g.E.Env.full c.right_beneath.new.env) (Unit {0}) outgrown

pub returns-in-Ok-clause-kept : goal.returns-in-Ok-clause-kept
returns-in-Ok-clause-kept g c =
    let nodes = c.args.arena.now.nodes in
    let middle = c.right_beneath.new.arena in
    let after = c.held_at.new.arena in
    let env = c.right_beneath.new.env in
    let does = c.in_ok-under.ensures in
    let stay = extends_env (g.E.Env.stands env) (g.E.Env.entries env) ((g.met.E.Env c.lifetimes (search rules)).stays env) middle after c.held_at.ensures.extends does.stands_after in
    beneath_kept (g.E.Env.entries c.args.env.now nodes) (tree nodes c.args.node) (tree middle.nodes c.in_ok-under.under) does.exact.0 _ _ _ c.args.arena.now middle after does.kept
    _ stay.1 refl refl refl c.held_at.ensures.extends c.held_at.ensures.adds

pub returns-in-Err-Full-clause-kept : goal.returns-in-Err-Full-clause-kept
returns-in-Err-Full-clause-kept g c =
    let nodes = c.args.arena.now.nodes in
    let middle = c.right_beneath.new.arena in
    let after = c.held_at.new.arena in
    let env = c.right_beneath.new.env in
    let does = c.in_ok-under.ensures in
    let stay = extends_env (g.E.Env.stands env) (g.E.Env.entries env) ((g.met.E.Env c.lifetimes (search rules)).stays env) middle after c.held_at.ensures.extends does.stands_after in
    beneath_kept (g.E.Env.entries c.args.env.now nodes) (tree nodes c.args.node) (tree middle.nodes c.in_ok-under.under) does.exact.0 _ _ _ c.args.arena.now middle after does.kept
    _ stay.1 refl refl refl c.held_at.ensures.extends c.held_at.ensures.adds

pub returns-in-Err-OutOfMemory-clause-kept : goal.returns-in-Err-OutOfMemory-clause-kept
returns-in-Err-OutOfMemory-clause-kept g c =
    let nodes = c.args.arena.now.nodes in
    let middle = c.right_beneath.new.arena in
    let after = c.held_at.new.arena in
    let env = c.right_beneath.new.env in
    let does = c.in_ok-under.ensures in
    let stay = extends_env (g.E.Env.stands env) (g.E.Env.entries env) ((g.met.E.Env c.lifetimes (search rules)).stays env) middle after c.held_at.ensures.extends does.stands_after in
    beneath_kept (g.E.Env.entries c.args.env.now nodes) (tree nodes c.args.node) (tree middle.nodes c.in_ok-under.under) does.exact.0 _ _ _ c.args.arena.now middle after does.kept
    _ stay.1 refl refl refl c.held_at.ensures.extends c.held_at.ensures.adds
