-- A walk through types in tasks, of which the last is the next one: to enter a type, or to finish one that was entered.
use Rattle.std.specs.Prelude.{◌≡◌, ◌⊎◌, ℕ, true, List, [], ◌∷◌, ◌++◌, map, length}
use Rattle.type_terms.specs.declared.descriptors.Node.{Node}
use Rattle.type_terms.specs.Parts.{parts}
use Rattle.type_terms.specs.Arenas.{AllBelow}
use Rattle.type_terms.specs.Denotation.{tree}
use Rattle.decl_text.specs.declared.tasks.Task.{Task}
use Rattle.decl_text.specs.declared.tasks.Task.TheVariants.{Enter, Finish}
use Rattle.decl_text.specs.Numbers.{Numbers, is_settled, finish}

abbrev pub task_node : Task → ℕ
task_node (Enter id) = id
task_node (Finish id) = id

-- the tasks to enter some types, of which the first is next
abbrev pub entering : List ℕ → List Task
entering [] = []
entering (id ∷ ids) = entering ids ++ Enter id ∷ []

-- a type was entered: first its parts are to be entered, and then it is to be finished
pub record IsEntered (nodes : List Node) (id : ℕ) (before after : List Task) : Type 0 where
  pub types : List ℕ
  pub there : AllBelow (length nodes) types
  pub denote : map (tree nodes) types ≡ parts (tree nodes id)
  pub tasks : after ≡ (before ++ Finish id ∷ []) ++ entering types

-- What a task does to the other tasks and to the numbers: a settled type isn't entered.
abbrev pub Steps : List Node → Task → List Task → Numbers → List Task → Numbers → Type 0
Steps nodes (Enter id) tasks numbers after new = (new ≡ numbers)
    × (((is_settled numbers.types (tree nodes id) ≡ true) × (after ≡ tasks)) ⊎ IsEntered nodes id tasks after)
Steps nodes (Finish id) tasks numbers after new = (new ≡ finish numbers (tree nodes id)) × (after ≡ tasks)
