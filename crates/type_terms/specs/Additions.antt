-- What a call may add to an arena, and why an arena may have no room for it.
use Rattle.std.specs.Prelude.{◌≡◌, ◌≢◌, ℕ, ◌<◌, ◌≤◌, ◌⊎◌, List, length}
use Rattle.std.specs.List.{AllPairs, Contains}
use Rattle.type_terms.specs.declared.descriptors.Node.{Node}
use Rattle.type_terms.specs.Trees.{Tree}
use Rattle.type_terms.specs.Parts.{Within}
use Rattle.type_terms.specs.Denotation.{tree}
use Rattle.type_terms.specs.Arenas.{Contents}

-- one of the types, or a part of one at any depth
abbrev pub StandsIn : List Tree → Tree → Type 0
StandsIn types type = (outer : Tree) × Contains types outer × Within outer type

-- what stands in fewer types stands in more
abbrev pub Covers : List Tree → List Tree → Type 0
Covers more fewer = (type : Tree) → StandsIn fewer type → StandsIn more type

-- a node denotes it
abbrev pub IsDenoted : List Node → Tree → Type 0
IsDenoted nodes type = (number : ℕ) × (number < length nodes) × (tree nodes number ≡ type)

-- what the nodes denote that came after the old ones stands in these types
abbrev pub AddsOnly : List Tree → Contents → Contents → Type 0
AddsOnly types old new = (number : ℕ) → length old.nodes ≤ number → number < length new.nodes
    → StandsIn types (tree new.nodes number)

-- The trees that the arena's nodes denote and those that stand in the types are more than the nodes that it may have:
-- there are as many, and no two of them are the same.
pub record Outgrows (arena : Contents) (types : List Tree) : Type 0 where
  pub trees : List Tree
  pub apart : AllPairs (λ left right. left ≢ right) trees
  pub known : (type : Tree) → Contains trees type → IsDenoted arena.nodes type ⊎ StandsIn types type
  pub many : arena.limit < length trees
