use Rattle.std.proofs.Common.{map}
use Rattle.std.specs.List.{flat_map}
use Rattle.type_terms.specs.Declarations.{decl_nodes}
use Rattle.type_terms.specs.Denotation.{tree}
use Rattle.environments.specs.References.{tree_references}
use Rattle.environments.specs.ReferenceTasks.{view}
use Rattle.environments.proofs.ReferenceWalkLemmas.{IsWalking, tasks_weight}
use Rattle.environments.proofs.reference_walk.references.Given as goal

abbrev pub invariant-loop-task : goal.invariant-loop-task
invariant-loop-task l =
    IsWalking l.arena.nodes (flat_map tree_references (map (tree l.arena.nodes) (decl_nodes l.decl))) (view l.walk)

abbrev pub decreases-loop-task : goal.decreases-loop-task
decreases-loop-task l = tasks_weight l.arena.nodes l.walk.tasks.items
