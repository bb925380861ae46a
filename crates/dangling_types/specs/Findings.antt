-- What was found in the types of an arena's nodes.
use Rattle.std.specs.Prelude.{◌≡◌, ℕ, List, nat_eq, Option, Some}
use Rattle.std.specs.Option.{unwrap_or}
use Rattle.std.specs.Map.{lookup}
use Rattle.std.specs.List.{AllByRecursion}
use Rattle.type_terms.specs.declared.descriptors.Node.{Node}
use Rattle.type_terms.specs.Arenas.{IsNode}
use Rattle.type_terms.specs.Denotation.{tree}
use Rattle.type_terms.specs.NodeShapes.{children}
use Rattle.environments.specs.References.{tree_references}
use Rattle.dangling_references.specs.Dangling.{Entries}
use Rattle.dangling_types.specs.declared.finding.Finding.{Finding}
use Rattle.dangling_types.specs.declared.finding.Finding.TheVariants.{Sound}
use Rattle.dangling_types.specs.FirstDangling.{first_dangling}
use Rattle.dangling_types.specs.NodeReferences.{Finds}

-- what was found for nodes, by their numbers
abbrev pub Known : Type 0
Known = List (ℕ × Finding)

abbrev pub known_for : Known → ℕ → Option Finding
known_for known id = lookup (nat_eq id) known

abbrev pub finding_for : Known → ℕ → Finding
finding_for known id = unwrap_or (known_for known id) Sound

abbrev pub IsKnown : Known → ℕ → Type 0
IsKnown known id = (finding : Finding) × (known_for known id ≡ Some finding)

-- what was found in the type of a node is its first reference that dangles
abbrev pub IsRight : Entries → List Node → ℕ → Finding → Type 0
IsRight entries nodes id finding = Finds nodes finding (first_dangling entries (tree_references (tree nodes id)))

-- so it is for all nodes that are known
abbrev pub AreRight : Entries → List Node → Known → Type 0
AreRight entries nodes known = (id : ℕ) (finding : Finding) → known_for known id ≡ Some finding
    → IsRight entries nodes id finding

-- the children of a node are known
abbrev pub HasChildren : List Node → Known → ℕ → Type 0
HasChildren nodes known id = (node : Node) → IsNode nodes id node → AllByRecursion (IsKnown known) (children node)
