use Rattle.std.proofs.Common.{◌≡◌, ◌<◌, ◌++◌, [], refl, ap, sym, subst, ◌∙◌, map, rules}
use Rattle.std.specs.List.{flat_map}
use Rattle.go_values.specs.declared.positions.Pos.{Pos}
use Rattle.type_terms.specs.Trees.{Text}
use Rattle.type_terms.specs.Declarations.{decl_nodes, decl_form}
use Rattle.type_terms.specs.DeclarationLaws.{form_types_map}
use Rattle.type_terms.specs.Denotation.{tree}
use Rattle.environments.specs.References.{tree_references, IsFirstMentions}
use Rattle.environments.specs.ReferenceTasks.{View, view, visiting}
use Rattle.environments.proofs.ReferenceWalkLemmas.{tasks_weight, walk_begins, walk_ended, next_inside, step_falls, step_walks}
use Rattle.environments.proofs.reference_walk.references.Goals as goal

pub loop-task-init : goal.loop-task-init
loop-task-init c =
    let types = decl_nodes c.args.decl.now in
    let empty = c.new-walk.ensures.nothing in
    let pushed = c.in_ok-push_decl.ensures ∙ ap (λ front. front ++ types) c.new-walk.ensures.room in
    let tasks = c.in_ok-visit_all.ensures
    ∙ ap (λ (v : View). v.tasks ++ visiting c.push_decl.new.into.items) empty
    ∙ ap visiting pushed in
    walk_begins c.args.arena.now.nodes types _ c.requires.there tasks (ap (λ (v : View). v.found) empty) (ap (λ (v : View). v.finished) empty)

pub step-requires : goal.step-requires
step-requires c =
    let all = flat_map tree_references (map (tree c.args.arena.now.nodes) (decl_nodes c.args.decl.now)) in
    record { there = next_inside c.args.arena.now.nodes all c.in-Some.task c.pop.new.self.items (view c.loop-task.walk) c.in-Some.ensures.items c.loop-task.invariant }

pub loop-task-smaller : goal.loop-task-smaller
loop-task-smaller c =
    let nodes = c.args.arena.now.nodes in
    let all = flat_map tree_references (map (tree nodes) (decl_nodes c.args.decl.now)) in
    let here = next_inside nodes all c.in-Some.task c.pop.new.self.items (view c.loop-task.walk) c.in-Some.ensures.items c.loop-task.invariant in
    subst (λ tasks. tasks_weight nodes c.step.new.self.tasks.items < tasks_weight nodes tasks) (sym c.in-Some.ensures.items)
    (step_falls nodes c.in-Some.task _ (view c.step.new.self) here c.in_ok-step.ensures)

pub loop-task-preserved : goal.loop-task-preserved
loop-task-preserved c =
    let nodes = c.args.arena.now.nodes in
    let all = flat_map tree_references (map (tree nodes) (decl_nodes c.args.decl.now)) in
    let popped : View = record { tasks = c.pop.new.self.items; found = c.loop-task.walk.found.keys; finished = c.loop-task.walk.finished.keys } in
    step_walks nodes all c.in-Some.task (view c.loop-task.walk) popped (view c.step.new.self) c.in-Some.ensures.items refl refl c.loop-task.invariant c.in_ok-step.ensures

pub returns : goal.returns
returns c =
    let nodes = c.args.arena.now.nodes in
    let all = flat_map tree_references (map (tree nodes) (decl_nodes c.args.decl.now)) in
    let none : c.loop-task.walk.tasks.items ≡ [] = search rules in
    let types = form_types_map (tree nodes) Pos Text (decl_form c.args.decl.now) in
    record {
      mentions = subst (λ types. IsFirstMentions [] (flat_map tree_references types) c.loop-task.walk.found.keys) (sym types)
          (walk_ended nodes all (view c.loop-task.walk) c.loop-task.invariant none);
    }
