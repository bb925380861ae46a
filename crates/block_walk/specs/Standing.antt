-- What a section that is being written stands for, and what steps over nodes do to it.
use Rattle.std.specs.Prelude.{◌≡◌, ℕ, ◌<◌, List, [], ◌∷◌, ◌++◌, true, false, length, slice_index_or}
use Rattle.std.specs.List.{flat_map}
use Rattle.type_terms.specs.declared.descriptors.Node.{Node}
use Rattle.type_terms.specs.Arenas.{AllBelow}
use Rattle.type_terms.specs.Denotation.{tree}
use Rattle.type_terms.specs.Trees.{Text, Tree}
use Rattle.file_envelope.specs.FileBytes.{text_number}
use Rattle.file_layout.specs.Walk.{is_made}
use Rattle.file_layout.specs.Places.{is_placed, number_in}
use Rattle.block_writer.specs.declared.items.Item.{Item as Put}
use Rattle.block_writer.specs.declared.items.Item.TheVariants as put
use Rattle.block_walk.specs.declared.section.Section.{Section}
use Rattle.block_walk.specs.declared.steps.Step.{Step as Todo}
use Rattle.block_walk.specs.declared.steps.Step.TheVariants as todo
use Rattle.block_walk.specs.Steps.{Step}
use Rattle.block_walk.specs.StepsMeant.{meant_step}
use Rattle.block_walk.specs.Going.{Out, after}

-- The section is what was written, where each node that has a descriptor has its number, and is marked where it is
-- placed.
pub record Stands (nodes : List Node) (section : Section) (out : Out) : Type 0 where
  pub bytes : section.body ≡ out.written.bytes
  pub texts : section.strings ≡ out.texts
  pub paths : section.paths.keys ≡ out.paths
  pub names : section.names.keys ≡ out.names
  pub numbers : (id : ℕ) → id < length nodes → is_made (tree nodes id) ≡ true
      → slice_index_or section.numbers.items id 0 ≡ number_in out.written.blocks (tree nodes id)
  pub placed : (id : ℕ) → id < length nodes
      → slice_index_or section.placed.items id false ≡ is_placed out.written.blocks (tree nodes id)
  -- what is written is denoted by a node
  pub denoted : (type : Tree) → is_placed out.written.blocks type ≡ true
      → (id : ℕ) × (id < length nodes) × (tree nodes id ≡ type)

-- each node has a number and a mark
pub record HasRoom (nodes : List Node) (section : Section) : Type 0 where
  pub numbers : length section.numbers.items ≡ length nodes
  pub marks : length section.placed.items ≡ length nodes

-- ---- what is left

-- the next step stands last
abbrev pub left_steps : (ℕ → Tree) → List Todo → List Step
left_steps type [] = []
left_steps type (x ∷ xs) = left_steps type xs ++ meant_step type x ∷ []

abbrev pub step_ids : Todo → List ℕ
step_ids (todo.Say text) = []
step_ids (todo.Tell path) = []
step_ids (todo.Meet id) = id ∷ []
step_ids (todo.Finish id) = id ∷ []

-- the node of an item's type is there
abbrev pub IsThere : List Node → Put → Type 0
IsThere nodes (put.Type id) = id < length nodes
IsThere nodes _ = Unit {0}

-- the nodes of steps are there
abbrev pub AreThere : List Node → List Todo → Type 0
AreThere nodes xs = AllBelow (length nodes) (flat_map step_ids xs)

-- What some steps come to from the old section is what those that are left come to from the new one, whatever is
-- mentioned later.
pub record Goes (nodes : List Node) (own : Text) (old new : Section) (steps left : List Step) : Type 0 where
  pub texts : List Text
  pub grown : new.strings ≡ old.strings ++ texts
  pub room : HasRoom nodes new
  pub comes : (more : List Text) (out : Out) → Stands nodes old out
      → (now : Out) × Stands nodes new now
      × (after own (text_number (new.strings ++ more)) out steps
      ≡ after own (text_number (new.strings ++ more)) now left)
