use Rattle.std.proofs.Common.{map}
use Rattle.std.specs.List.{flat_map}
use Rattle.type_terms.specs.Declarations.{decl_nodes}
use Rattle.type_terms.specs.Denotation.{tree}
use Rattle.decl_text.specs.Walks.{walk}
use Rattle.decl_text.specs.Numbering.{numbers_at, StandsIn}
use Rattle.decl_text.proofs.TaskLemmas.{IsWalking, tasks_weight}
use Rattle.decl_text.proofs.walking.Walk.number_types.Given as goal

abbrev pub invariant-loop-task : goal.invariant-loop-task
invariant-loop-task l =
    IsWalking l.arena.nodes (flat_map walk (map (tree l.arena.nodes) (decl_nodes l.decl))) l.self.tasks.items (numbers_at l.arena.nodes l.self.numbering)
    × StandsIn l.arena.nodes l.self.numbering

abbrev pub decreases-loop-task : goal.decreases-loop-task
decreases-loop-task l = tasks_weight l.arena.nodes l.self.tasks.items
