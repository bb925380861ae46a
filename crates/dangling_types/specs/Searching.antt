-- The order in which nodes are looked at: a node behind those that stand in it.
use Rattle.std.specs.Prelude.{◌≡◌, ℕ, ◌<◌, ◌⊎◌, List, [], ◌∷◌, length, slice_get, nat_eq, cond, Some}
use Rattle.std.specs.List.{Contains}
use Rattle.type_terms.specs.declared.descriptors.Node.{Node}
use Rattle.type_terms.specs.Arenas.{IsNode, AllBelow}
use Rattle.type_terms.specs.NodeShapes.{children}
use Rattle.dangling_references.specs.Dangling.{Entries}
use Rattle.dangling_types.specs.declared.finding.Finding.{Finding}
use Rattle.dangling_types.specs.Findings.{Known, known_for, IsKnown, AreRight}

-- each number is less than those before it
abbrev pub AreFalling : List ℕ → Type 0
AreFalling numbers = (j k a b : ℕ) → slice_get numbers j ≡ Some a → slice_get numbers k ≡ Some b → j < k → b < a

-- What a search for the nodes of a type has that aren't known: those that it met, and those that wait to be met.
pub record IsSearch (nodes : List Node) (known : Known) (start : ℕ) (met waiting : List ℕ) : Type 0 where
  pub begins : Contains met start ⊎ (Contains waiting start ⊎ IsKnown known start)
  -- with each that was met come those that stand in it
  pub closed : (id child : ℕ) (node : Node) → Contains met id → IsNode nodes id node → Contains (children node) child
      → Contains met child ⊎ (Contains waiting child ⊎ IsKnown known child)
  pub within : (id : ℕ) → Contains met id ⊎ Contains waiting id → id < length nodes
  -- what stands in a node is less, what waits is less than what was met, and what was met later than what before
  pub lower : (id child : ℕ) (node : Node) → Contains met id → IsNode nodes id node → Contains (children node) child
      → child < id
  pub below : (id other : ℕ) → Contains met id → Contains waiting other → other < id
  pub falls : AreFalling met

-- the nodes of a type that aren't known, each before those that stand in it
abbrev pub AreWanted : List Node → Known → ℕ → List ℕ → Type 0
AreWanted nodes known start met = IsSearch nodes known start met []

-- these are the nodes that stand in a node
pub record AreChildren (nodes : List Node) (id : ℕ) (inner : List ℕ) : Type 0 where
  pub node : Node
  pub stands : IsNode nodes id node
  pub are : inner ≡ children node
  pub falls : AllBelow id (children node)

-- Of some numbers those came to a set that aren't known.
pub record Joins (known : Known) (old new ids : List ℕ) : Type 0 where
  pub kept : (q : ℕ) → Contains old q → Contains new q
  pub added : (q : ℕ) → Contains ids q → Contains new q ⊎ IsKnown known q
  pub only : (q : ℕ) → Contains new q → Contains old q ⊎ Contains ids q

-- the last of some numbers, or another where there are none
abbrev pub last_of : ℕ → List ℕ → ℕ
last_of other [] = other
last_of other (x ∷ xs) = last_of x xs

-- it is noted what was found for a node, and all else is as before
abbrev pub Notes : Known → Known → ℕ → Finding → Type 0
Notes old new id finding = (other : ℕ) → known_for new other
    ≡ cond (nat_eq id other) (Some finding) (known_for old other)

-- What is kept as the nodes of a list are looked at, from its last one on.
pub record IsLooking (entries : Entries) (nodes : List Node) (old : Known) (met left : List ℕ) (known : Known)
    : Type 0 where
  pub right : AreRight entries nodes known
  pub kept : (id : ℕ) → IsKnown old id → IsKnown known id
  pub falls : AreFalling left
  pub inside : (id : ℕ) → Contains left id → Contains met id
  pub done : (id : ℕ) → Contains met id → Contains left id ⊎ IsKnown known id
