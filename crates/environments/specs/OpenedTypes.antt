-- The types that a call opens, what it may add to an arena for them, and why there may be no room for them.
use Rattle.std.specs.Prelude.{◌≢◌, ℕ, ◌<◌, ◌≤◌, ◌⊎◌, List, length}
use Rattle.std.specs.List.{AllPairs, Contains}
use Rattle.type_terms.specs.Trees.{Tree}
use Rattle.type_terms.specs.Parts.{Within}
use Rattle.type_terms.specs.Denotation.{tree}
use Rattle.type_terms.specs.Arenas.{Contents}
use Rattle.type_terms.specs.Additions.{IsDenoted}

-- a type that is opened, or a part of one at any depth
abbrev pub StandsAmong : (Tree → Type 0) → Tree → Type 0
StandsAmong opens type = (outer : Tree) × opens outer × Within outer type

-- what the nodes denote that came after the old ones stands in types that are opened
abbrev pub AddsAmong : (Tree → Type 0) → Contents → Contents → Type 0
AddsAmong opens old new = (number : ℕ) → length old.nodes ≤ number → number < length new.nodes
    → StandsAmong opens (tree new.nodes number)

-- The trees that the arena's nodes denote and those that stand in types that are opened are more than the nodes that it
-- may have: there are as many, and no two of them are the same.
pub record OutgrowsAmong (opens : Tree → Type 0) (arena : Contents) : Type 0 where
  pub trees : List Tree
  pub apart : AllPairs (λ left right. left ≢ right) trees
  pub known : (type : Tree) → Contains trees type → IsDenoted arena.nodes type ⊎ StandsAmong opens type
  pub many : arena.limit < length trees
