-- What is put where a descriptor is finished.
use Rattle.std.specs.Prelude.{◌≡◌, ℕ, ◌+◌, List, true, length, slice_set}
use Rattle.std.specs.List.{AllByRecursion}
use Rattle.decl_spelling.specs.declared.mention.TheConstants.{FIRST_DESCRIPTOR}
use Rattle.type_terms.specs.declared.descriptors.Node.{Node}
use Rattle.type_terms.specs.Arenas.{AllBelow, IsArena}
use Rattle.type_terms.specs.Denotation.{tree}
use Rattle.type_terms.specs.NodeShapes.{node_shape, children}
use Rattle.type_terms.specs.Shapes.{retype}
use Rattle.type_terms.specs.Trees.{Text, tree_of}
use Rattle.block_writer.specs.Putting.{PutsDescriptor}
use Rattle.block_walk.specs.declared.section.Section.{Section}
use Rattle.block_walk.specs.Going.{with_names}
use Rattle.block_walk.specs.Labels.{Labels, IsLabelled}
use Rattle.block_walk.specs.NodeNames.{node_names}

-- The descriptor of a node was put behind all that was written, and its number and its mark were set.
pub record IsPut (nodes : List Node) (own : Text) (id : ℕ) (old new : Section) : Type 0 where
  pub node : Node
  pub arena : IsArena nodes
  pub denotes : tree nodes id ≡ tree_of (retype (tree nodes) (node_shape node))
  pub below : AllBelow (length nodes) (children node)
  pub labels : List ℕ
  pub labelled : Labels nodes old.numbers.items labels
  pub children : AllByRecursion (IsLabelled nodes labels) (children node)
  pub put : PutsDescriptor own labels node old.strings new.strings old.body new.body
  pub paths : new.paths.keys ≡ old.paths.keys
  pub names : new.names.keys ≡ with_names old.names.keys (node_names node)
  pub numbers : new.numbers.items ≡ slice_set labels id (FIRST_DESCRIPTOR + length old.body)
  pub placed : new.placed.items ≡ slice_set old.placed.items id true
