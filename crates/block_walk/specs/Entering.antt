-- A type that is met, and what comes of it.
use Rattle.std.specs.Prelude.{◌≡◌, ◌++◌, ℕ, List, map, Bool, not, ◌||◌, false, slice_index_or}
use Rattle.type_terms.specs.declared.descriptors.Node.{Node}
use Rattle.type_terms.specs.Denotation.{tree}
use Rattle.type_terms.specs.Trees.{Tree}
use Rattle.file_layout.specs.Walk.{is_made}
use Rattle.block_walk.specs.declared.section.Section.{Section}
use Rattle.block_walk.specs.declared.steps.Step.{Step as Todo}
use Rattle.block_walk.specs.Standing.{left_steps, AreThere}
use Rattle.block_walk.specs.Steps.{type_steps}
use Rattle.block_walk.specs.StepsMeant.{meant_step}

-- predeclared, or marked
abbrev pub is_marked : List Node → Section → ℕ → Bool
is_marked nodes section id = not (is_made (tree nodes id)) || slice_index_or section.placed.items id false

-- the steps of a type's descriptor come before those that are left
pub record Enters (nodes : List Node) (id : ℕ) (old new : List Todo) : Type 0 where
  pub steps : left_steps (tree nodes) new ≡ type_steps (tree nodes id) ++ left_steps (tree nodes) old
  pub there : AreThere nodes old → AreThere nodes new

-- steps come before those that are left, the first of them as the next
pub record Piles (steps old new : List Todo) : Type 0 where
  pub are : (type : ℕ → Tree) → left_steps type new ≡ map (meant_step type) steps ++ left_steps type old
  pub there : (nodes : List Node) → AreThere nodes steps → AreThere nodes old → AreThere nodes new
