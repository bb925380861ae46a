use Rattle.std.proofs.Common.{rules, ◌≡◌, [], ap, refl}
use Rattle.std.proofs.lemmas.Result.{err_from_is_err_and}
use Rattle.type_terms.specs.Denotation.{tree}
use Rattle.environments.specs.KeptLaws.{kept_itself, kept_again, kept_more}
use Rattle.term_tests.specs.Walks.{View, view, stack}
use Rattle.term_tests.proofs.WalkLemmas.{begins, all_tested, all_ordered}
use Rattle.term_tests.proofs.StepLemmas.{is_known, popped, step_walks, step_falls, asked_here, opened_here, does_now, stopped}
use Rattle.term_tests.proofs.walking.ordered_aliases.Goals as goal

pub loop-task-init : goal.loop-task-init
loop-task-init g c =
    let entries = g.E.Env.entries c.args.env.now c.args.arena.now.nodes in
    let does = c.in-Ok.ensures in
    (begins entries (g.E.Env.names c.args.env.now) (tree c.args.arena.now.nodes c.args.node) (view c.in-Ok.walk) does.tasks does.entered does.left, kept_itself _ _ _ _, c.requires.stands)

pub returns-in_err-step-clause-exact : goal.returns-in_err-step-clause-exact
returns-in_err-step-clause-exact g c =
    let entries = g.E.Env.entries c.args.env.now c.args.arena.now.nodes in
    let names = g.E.Env.names c.args.env.now in
    let known = is_known entries names ((g.met.E.Env c.lifetimes (search rules)).finite c.args.env.now c.args.arena.now.nodes) in
    let is = c.loop-task.invariant in
    let at = c.loop-task in
    let rest = c.pop.new.self.items in
    let old : View = record { tasks = stack rest; entered = at.walk.entered.keys; left = at.walk.left.keys } in
    let top = popped rest c.in-Some.task at.walk.tasks.items c.in-Some.ensures.items in
    let p = err_from_is_err_and c.from_residual.result c.from_residual.ensures.1 in
    rw (p.1, p.2) (stopped entries names _ known (view at.walk) c.in-Some.task (stack rest) top is.0 old refl refl refl _ is.1.entries (view c.step.new.walk) c.args.arena.now at.arena (g.E.Env.full c.step.new.env) c.in_err-step.field-0.0 is.1.extends is.1.adds c.in_err-step.ensures.exact)

pub returns-in_err-step-clause-kept : goal.returns-in_err-step-clause-kept
returns-in_err-step-clause-kept g c =
    let entries = g.E.Env.entries c.args.env.now c.args.arena.now.nodes in
    let names = g.E.Env.names c.args.env.now in
    let known = is_known entries names ((g.met.E.Env c.lifetimes (search rules)).finite c.args.env.now c.args.arena.now.nodes) in
    let is = c.loop-task.invariant in
    let at = c.loop-task in
    let rest = c.pop.new.self.items in
    let old : View = record { tasks = stack rest; entered = at.walk.entered.keys; left = at.walk.left.keys } in
    let top = popped rest c.in-Some.task at.walk.tasks.items c.in-Some.ensures.items in
    kept_again _ _ _ _ _ _ _ _ is.1 (kept_more _ _ _ _ _ _ _ _
    (asked_here entries names _ known (view at.walk) c.in-Some.task (stack rest) top is.0 old refl refl refl)
    (opened_here entries names _ known (view at.walk) c.in-Some.task (stack rest) top is.0 old refl refl refl _ is.1.entries)
    c.in_err-step.ensures.kept)

pub loop-task-smaller : goal.loop-task-smaller
loop-task-smaller g c =
    let entries = g.E.Env.entries c.args.env.now c.args.arena.now.nodes in
    let names = g.E.Env.names c.args.env.now in
    let known = is_known entries names ((g.met.E.Env c.lifetimes (search rules)).finite c.args.env.now c.args.arena.now.nodes) in
    let is = c.loop-task.invariant in
    let at = c.loop-task in
    let rest = c.pop.new.self.items in
    let old : View = record { tasks = stack rest; entered = at.walk.entered.keys; left = at.walk.left.keys } in
    let top = popped rest c.in-Some.task at.walk.tasks.items c.in-Some.ensures.items in
    step_falls entries names _ known (view at.walk) c.in-Some.task (stack rest) top is.0 old refl refl refl (view c.step.new.walk)
    (does_now entries names _ known (view at.walk) c.in-Some.task (stack rest) top is.0 old refl refl refl _ is.1.entries (view c.step.new.walk) c.in_ok-step.ensures.exact)

pub loop-task-preserved : goal.loop-task-preserved
loop-task-preserved g c =
    let entries = g.E.Env.entries c.args.env.now c.args.arena.now.nodes in
    let names = g.E.Env.names c.args.env.now in
    let known = is_known entries names ((g.met.E.Env c.lifetimes (search rules)).finite c.args.env.now c.args.arena.now.nodes) in
    let is = c.loop-task.invariant in
    let at = c.loop-task in
    let rest = c.pop.new.self.items in
    let old : View = record { tasks = stack rest; entered = at.walk.entered.keys; left = at.walk.left.keys } in
    let top = popped rest c.in-Some.task at.walk.tasks.items c.in-Some.ensures.items in
    let does = c.in_ok-step.ensures in (
      step_walks entries names _ known (view at.walk) c.in-Some.task (stack rest) top is.0 old refl refl refl (view c.step.new.walk)
          (does_now entries names _ known (view at.walk) c.in-Some.task (stack rest) top is.0 old refl refl refl _ is.1.entries (view c.step.new.walk) does.exact),
      kept_again _ _ _ _ _ _ _ _ is.1 (kept_more _ _ _ _ _ _ _ _
          (asked_here entries names _ known (view at.walk) c.in-Some.task (stack rest) top is.0 old refl refl refl)
          (opened_here entries names _ known (view at.walk) c.in-Some.task (stack rest) top is.0 old refl refl refl _ is.1.entries)
          does.kept),
      does.stands_after,
    )

pub returns-clause-exact : goal.returns-clause-exact
returns-clause-exact g c =
    let none : c.loop-task.walk.tasks.items ≡ [] = search rules in
    all_tested _ _ _ (view c.loop-task.walk) c.loop-task.invariant.0 (ap stack none)

pub returns-clause-ordered : goal.returns-clause-ordered
returns-clause-ordered g c =
    let none : c.loop-task.walk.tasks.items ≡ [] = search rules in
    all_ordered _ _ _ (view c.loop-task.walk) c.loop-task.invariant.0 (ap stack none)
