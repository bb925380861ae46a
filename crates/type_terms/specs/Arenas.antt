-- Arenas of nodes.
use Rattle.std.specs.Prelude.{◌≡◌, ◌≢◌, ◌<◌, ◌≤◌, ℕ, List, [], ◌∷◌, ◌++◌, Some, slice_get, length}
use Rattle.std.specs.List.{AllByRecursion}
use Rattle.type_terms.specs.declared.descriptors.Node.{Node}
use Rattle.type_terms.specs.Trees.{level_of, tree_of}
use Rattle.type_terms.specs.Shapes.{retype}
use Rattle.type_terms.specs.Parts.{MeetsBase}
use Rattle.type_terms.specs.NodeShapes.{node_shape, children}
use Rattle.type_terms.specs.Denotation.{tree}

-- the nodes of an arena in the order of their numbers, and how many it may have
pub record Contents : Type 0 where
  pub nodes : List Node
  pub limit : ℕ

-- the node with the number
abbrev pub IsNode : List Node → ℕ → Node → Type 0
IsNode nodes number node = slice_get nodes number ≡ Some node

abbrev pub IsNew : List Node → Node → Type 0
IsNew nodes node = (number : ℕ) → slice_get nodes number ≢ Some node

-- the numbers are those of nodes below n
abbrev pub AllBelow : ℕ → List ℕ → Type 0
AllBelow n = AllByRecursion (λ number. number < n)

-- Children stand before the node that holds them, no node stands twice, and instances have a generic type.
pub record IsArena (nodes : List Node) : Type 0 where
  pub falls : (number : ℕ) (node : Node) → IsNode nodes number node → AllBelow number (children node)
  pub apart : (m n : ℕ) (node : Node) → IsNode nodes m node → IsNode nodes n node → m ≡ n
  pub generic : (number : ℕ) → number < length nodes → MeetsBase (level_of (tree nodes number))

-- nodes came at the end, at most
pub record Extends (old new : Contents) : Type 0 where
  pub more : List Node
  pub nodes : new.nodes ≡ old.nodes ++ more
  pub limit : new.limit ≡ old.limit

-- The node stands at the place, where it stood before or behind all others.
pub record Inserted (nodes after : List Node) (place : ℕ) (node : Node) : Type 0 where
  pub stands : IsNode after place node
  pub arena : IsArena after
  pub more : List Node
  pub is : after ≡ nodes ++ more
  pub present : (n : ℕ) → IsNode nodes n node → (place ≡ n) × (after ≡ nodes)
  pub fresh : IsNew nodes node → (place ≡ length nodes) × (after ≡ nodes ++ node ∷ [])
  pub last : (number : ℕ) → length nodes ≤ number → number < length after → number ≡ place
  pub denotes : tree after place ≡ tree_of (retype (tree nodes) (node_shape node))
