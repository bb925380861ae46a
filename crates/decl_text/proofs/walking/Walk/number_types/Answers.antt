use Rattle.std.proofs.Common.{◌<◌, ◌++◌, ◌∷◌, [], ap, sym, subst, ◌∙◌, length, map}
use Rattle.std.specs.List.{flat_map}
use Rattle.type_terms.specs.Declarations.{decl_nodes}
use Rattle.type_terms.specs.Denotation.{tree}
use Rattle.type_terms.specs.Replaced.{all_right}
use Rattle.decl_text.specs.Walks.{walk}
use Rattle.decl_text.specs.Numbering.{numbers_at}
use Rattle.decl_text.specs.Tasks.{task_node, entering}
use Rattle.decl_text.proofs.TaskLemmas.{IsWalking, AreInside, tasks_weight, walk_begins, step_falls, step_walks}
use Rattle.decl_text.proofs.walking.Walk.number_types.Goals as goal

pub loop-task-init : goal.loop-task-init
loop-task-init c =
    let nodes = c.args.arena.now.nodes in
    let decl = decl_nodes c.args.decl.now in
    let types = c.in_ok-push_decl.ensures ∙ ap (λ front. front ++ decl) c.clear-3.ensures.items in
    let tasks = c.in_ok-enter_all.ensures ∙ ap (λ front. front ++ entering c.push_decl.new.into.items) c.clear-2.ensures.items in
    (walk_begins nodes decl c.enter_all.new.tasks.items (numbers_at nodes c.clear.new.self) c.requires.there (tasks ∙ ap entering types) (c.clear.ensures.none nodes), c.clear.ensures.there nodes)

pub step-requires-clause-there : goal.step-requires-clause-there
step-requires-clause-there c =
    let nodes = c.args.arena.now.nodes in
    let inside = subst (AreInside nodes) c.in-Some.ensures.items c.loop-task.invariant.0.inside in
    (all_right (λ task. task_node task < length nodes) c.pop.new.self.items (c.in-Some.task ∷ []) inside).0

pub loop-task-smaller : goal.loop-task-smaller
loop-task-smaller c =
    let nodes = c.args.arena.now.nodes in
    let after = c.step.new.self.tasks.items in
    subst (λ tasks. tasks_weight nodes after < tasks_weight nodes tasks) (sym c.in-Some.ensures.items)
    (step_falls nodes c.in-Some.task c.pop.new.self.items after (numbers_at nodes c.loop-task.self.numbering) (numbers_at nodes c.step.new.self.numbering) c.in_ok-step.ensures.steps)

pub loop-task-preserved : goal.loop-task-preserved
loop-task-preserved c =
    let nodes = c.args.arena.now.nodes in
    let all = flat_map walk (map (tree nodes) (decl_nodes c.args.decl.now)) in
    let before = numbers_at nodes c.loop-task.self.numbering in
    let now = subst (λ tasks. IsWalking nodes all tasks before) c.in-Some.ensures.items c.loop-task.invariant.0 in
    (step_walks nodes all c.in-Some.task c.pop.new.self.items c.step.new.self.tasks.items before (numbers_at nodes c.step.new.self.numbering) now c.in_ok-step.ensures.steps, c.in_ok-step.ensures.stands)
