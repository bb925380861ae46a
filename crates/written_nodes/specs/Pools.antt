-- Nodes of what is written of types, in an arena of their own.
use Rattle.std.specs.Prelude.{◌≡◌, ℕ, ◌<◌, List, length, nat_eq, Option, Some}
use Rattle.std.specs.Option.{unwrap_or}
use Rattle.std.specs.Map.{lookup}
use Rattle.std.specs.List.{AllByRecursion}
use Rattle.type_terms.specs.declared.descriptors.Node.{Node}
use Rattle.type_terms.specs.Arenas.{Contents, IsNode, IsArena, Extends}
use Rattle.type_terms.specs.Denotation.{tree}
use Rattle.type_terms.specs.NodeShapes.{children}
use Rattle.written_types.specs.Written.{full, written}

-- which nodes were made for nodes of another arena, by their numbers
abbrev pub Made : Type 0
Made = List (ℕ × ℕ)

abbrev pub made_for : Made → ℕ → Option ℕ
made_for made id = lookup (nat_eq id) made

-- the node that was made for a node, or its own number
abbrev pub number_for : Made → ℕ → ℕ
number_for made id = unwrap_or (made_for made id) id

abbrev pub IsMade : Made → ℕ → Type 0
IsMade made id = (own : ℕ) × (made_for made id ≡ Some own)

-- a node of one arena denotes what is written of the type of a node of another
pub record IsWritten (from to : List Node) (id own : ℕ) : Type 0 where
  pub there : id < length from
  pub within : own < length to
  pub denotes : tree to own ≡ written full (tree from id)

-- all that was made, in an arena
pub record AreWritten (from to : List Node) (made : Made) : Type 0 where
  pub arena : IsArena to
  pub each : (id own : ℕ) → made_for made id ≡ Some own → IsWritten from to id own

-- The nodes, and for which nodes of another arena each was made.
pub record Pool : Type 0 where
  pub nodes : Contents
  pub made : Made

-- what was made was made for nodes of this arena
abbrev pub IsPoolOf : List Node → Pool → Type 0
IsPoolOf from pool = AreWritten from pool.nodes.nodes pool.made

-- nodes were added, and none was made for fewer nodes than before
pub record Grows (old new : Pool) : Type 0 where
  pub extends : Extends old.nodes new.nodes
  pub kept : (id : ℕ) → IsMade old.made id → IsMade new.made id

-- the children of a node have nodes that were made for them
abbrev pub HasChildren : List Node → Made → ℕ → Type 0
HasChildren from made id = (node : Node) → IsNode from id node → AllByRecursion (IsMade made) (children node)
