-- Numbers that nodes of an arena were given, and references to nodes: to the types that they denote.
use Rattle.std.specs.Prelude.{ℕ, ◌<◌, Bool, true, false, List, map, length}
use Rattle.std.specs.List.{Contains}
use Rattle.type_terms.specs.declared.descriptors.Node.{Node}
use Rattle.type_terms.specs.declared.descriptors.Node.TheVariants.{Predeclared, Named, Param, AliasName}
use Rattle.type_terms.specs.Trees.{Text}
use Rattle.type_terms.specs.Denotation.{tree}
use Rattle.decl_text.specs.Numbers.{Numbered, reference}

-- a number for each of some nodes
abbrev pub NodeNumbers : Type 0
NodeNumbers = List (ℕ × ℕ)

-- the numbers of the types that the nodes denote
abbrev pub numbered_at : List Node → NodeNumbers → Numbered
numbered_at nodes numbers = map (λ entry. (tree nodes entry.0, entry.1)) numbers

-- all of these nodes are in the arena
abbrev pub AreThere : List Node → NodeNumbers → Type 0
AreThere nodes numbers = (entry : ℕ × ℕ) → Contains numbers entry → entry.0 < length nodes

-- the reference to the type of a node
abbrev pub node_reference : List Node → NodeNumbers → ℕ → Text
node_reference nodes numbers id = reference (numbered_at nodes numbers) (tree nodes id)

-- a node whose type goes by its name
abbrev pub is_name : Node → Bool
is_name (Predeclared basic) = true
is_name (Named q) = true
is_name (Param q) = true
is_name (AliasName q) = true
is_name _ = false
