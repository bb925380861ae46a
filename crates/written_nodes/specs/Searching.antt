-- The order in which nodes are made: a node behind those that stand in it.
use Rattle.std.specs.Prelude.{◌≡◌, ℕ, ◌<◌, ◌⊎◌, List, [], ◌∷◌, length, slice_get, nat_eq, cond, Some}
use Rattle.std.specs.List.{Contains}
use Rattle.type_terms.specs.declared.descriptors.Node.{Node}
use Rattle.type_terms.specs.Arenas.{Contents, IsNode, AllBelow, Extends}
use Rattle.type_terms.specs.NodeShapes.{children}
use Rattle.written_nodes.specs.Pools.{Made, made_for, IsMade, AreWritten}

-- each number is less than those before it
abbrev pub AreFalling : List ℕ → Type 0
AreFalling numbers = (j k a b : ℕ) → slice_get numbers j ≡ Some a → slice_get numbers k ≡ Some b → j < k → b < a

-- What a search for the nodes of a type has for which none was made: those that it met, and those that wait to be met.
pub record IsSearch (nodes : List Node) (made : Made) (start : ℕ) (met waiting : List ℕ) : Type 0 where
  pub begins : Contains met start ⊎ (Contains waiting start ⊎ IsMade made start)
  -- with each that was met come those that stand in it
  pub closed : (id child : ℕ) (node : Node) → Contains met id → IsNode nodes id node → Contains (children node) child
      → Contains met child ⊎ (Contains waiting child ⊎ IsMade made child)
  pub within : (id : ℕ) → Contains met id ⊎ Contains waiting id → id < length nodes
  -- what stands in a node is less, what waits is less than what was met, and what was met later than what before
  pub lower : (id child : ℕ) (node : Node) → Contains met id → IsNode nodes id node → Contains (children node) child
      → child < id
  pub below : (id other : ℕ) → Contains met id → Contains waiting other → other < id
  pub falls : AreFalling met

-- the nodes of a type for which none was made, each before those that stand in it
abbrev pub AreWanted : List Node → Made → ℕ → List ℕ → Type 0
AreWanted nodes made start met = IsSearch nodes made start met []

-- these are the nodes that stand in a node
pub record AreChildren (nodes : List Node) (id : ℕ) (inner : List ℕ) : Type 0 where
  pub node : Node
  pub stands : IsNode nodes id node
  pub are : inner ≡ children node
  pub falls : AllBelow id (children node)

-- Of some numbers those came to a set for which no node was made.
pub record Joins (made : Made) (old new ids : List ℕ) : Type 0 where
  pub kept : (q : ℕ) → Contains old q → Contains new q
  pub added : (q : ℕ) → Contains ids q → Contains new q ⊎ IsMade made q
  pub only : (q : ℕ) → Contains new q → Contains old q ⊎ Contains ids q

-- the last of some numbers, or another where there are none
abbrev pub last_of : ℕ → List ℕ → ℕ
last_of other [] = other
last_of other (x ∷ xs) = last_of x xs

-- it is noted what was made for a node, and all else is as before
abbrev pub Notes : Made → Made → ℕ → ℕ → Type 0
Notes old new id own = (other : ℕ) → made_for new other ≡ cond (nat_eq id other) (Some own) (made_for old other)

-- What is kept as nodes are made for those of a list, from its last one on.
pub record IsMaking (from : List Node) (first : Contents) (old : Made) (met left : List ℕ) (now : Contents)
    (made : Made) : Type 0 where
  pub extends : Extends first now
  pub written : AreWritten from now.nodes made
  pub kept : (id : ℕ) → IsMade old id → IsMade made id
  pub falls : AreFalling left
  pub inside : (id : ℕ) → Contains left id → Contains met id
  pub known : (id : ℕ) → Contains met id → Contains left id ⊎ IsMade made id
