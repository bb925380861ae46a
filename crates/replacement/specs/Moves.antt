-- Nodes that stand for nodes whose parameters are replaced, and the order in which they are made.
use Rattle.std.specs.Prelude.{◌≡◌, ℕ, ◌<◌, ◌⊎◌, List, [], ◌∷◌, map, length, slice_get, nat_eq, cond, Option, Some}
use Rattle.std.specs.List.{Contains}
use Rattle.std.specs.Option.{unwrap_or}
use Rattle.std.specs.Map.{lookup}
use Rattle.go_values.specs.declared.qualified.QName.{QName}
use Rattle.type_terms.specs.declared.literals.ParamNode.{ParamNode}
use Rattle.type_terms.specs.declared.literals.Sig.{Sig}
use Rattle.type_terms.specs.declared.literals.Field.{Field}
use Rattle.type_terms.specs.declared.literals.IMethod.{IMethod}
use Rattle.type_terms.specs.declared.literals.Term.{Term}
use Rattle.type_terms.specs.declared.descriptors.Node.{Node}
use Rattle.type_terms.specs.declared.descriptors.Node.TheVariants.{Predeclared, Named, Param, AliasName, Pointer, Slice}
use Rattle.type_terms.specs.declared.descriptors.Node.TheVariants.{Array, Chan, MapOf, FuncOf, StructOf, Iface}
use Rattle.type_terms.specs.declared.descriptors.Node.TheVariants.{Instance, Union}
use Rattle.type_terms.specs.Additions.{AddsOnly}
use Rattle.type_terms.specs.Arenas.{Contents, IsNode, AllBelow, Extends}
use Rattle.type_terms.specs.Denotation.{tree}
use Rattle.type_terms.specs.NodeShapes.{children, node_shape}
use Rattle.type_terms.specs.Parts.{Within}
use Rattle.type_terms.specs.Shapes.{retype}
use Rattle.type_terms.specs.Trees.{Tree, tree_of}
use Rattle.replacement.specs.Substitution.{argument, replaced}

-- A node with each of its types moved.
module _ (move : ℕ → ℕ) where
  abbrev pub param_moved : ParamNode → ParamNode
  param_moved x = record { pos = x.pos; name = x.name; ty = move x.ty }

  abbrev pub sig_moved : Sig → Sig
  sig_moved x = record
      { params = map param_moved x.params; results = map param_moved x.results; variadic = x.variadic }

  abbrev pub field_moved : Field → Field
  field_moved x = record {
    origin = x.origin;
    pos = x.pos;
    name = x.name;
    ty = move x.ty;
    embedded = x.embedded;
    tag = x.tag;
  }

  abbrev pub method_moved : IMethod → IMethod
  method_moved x = record { origin = x.origin; pos = x.pos; name = x.name; sig = sig_moved x.sig }

  abbrev pub term_moved : Term → Term
  term_moved x = record { tilde = x.tilde; ty = move x.ty }

  abbrev pub node_moved : Node → Node
  node_moved (Predeclared basic) = Predeclared basic
  node_moved (Named q) = Named q
  node_moved (Param q) = Param q
  node_moved (AliasName q) = AliasName q
  node_moved (Pointer id) = Pointer (move id)
  node_moved (Slice id) = Slice (move id)
  node_moved (Array size id) = Array size (move id)
  node_moved (Chan dir id) = Chan dir (move id)
  node_moved (MapOf key id) = MapOf (move key) (move id)
  node_moved (FuncOf home sig) = FuncOf home (sig_moved sig)
  node_moved (StructOf home inner) = StructOf home (map field_moved inner)
  node_moved (Iface home embedded inner) = Iface home (map move embedded) (map method_moved inner)
  node_moved (Instance base args) = Instance (move base) (map move args)
  node_moved (Union inner) = Union (map term_moved inner)

-- what nodes were made for nodes
abbrev pub Moves : Type 0
Moves = List (ℕ × ℕ)

abbrev pub made_for : Moves → ℕ → Option ℕ
made_for moves id = lookup (nat_eq id) moves

-- the node that was made for a node, or the node itself
abbrev pub moved : Moves → ℕ → ℕ
moved moves id = unwrap_or (made_for moves id) id

-- what stands for a parameter, where the arguments are nodes
abbrev pub put_of : List Node → List QName → List ℕ → QName → Tree
put_of nodes ps args = argument ps (map (tree nodes) args)

-- a node was made for this one
abbrev pub IsMade : Moves → ℕ → Type 0
IsMade moves id = (made : ℕ) × (made_for moves id ≡ Some made)

-- what is made for a node denotes its type, replaced
pub record IsReplaced (nodes : List Node) (put : QName → Tree) (id made : ℕ) : Type 0 where
  pub from : id < length nodes
  pub within : made < length nodes
  pub denotes : tree nodes made ≡ replaced put (tree nodes id)

abbrev pub AreMoves : List Node → (QName → Tree) → Moves → Type 0
AreMoves nodes put moves = (id made : ℕ) → made_for moves id ≡ Some made → IsReplaced nodes put id made

-- it is noted what was made for a node, and all else is as before
abbrev pub Notes : Moves → Moves → ℕ → ℕ → Type 0
Notes old new id made = (other : ℕ) → made_for new other ≡ cond (nat_eq id other) (Some made) (made_for old other)

-- each number is less than those before it
abbrev pub AreFalling : List ℕ → Type 0
AreFalling numbers = (j k a b : ℕ) → slice_get numbers j ≡ Some a → slice_get numbers k ≡ Some b → j < k → b < a

-- What a search for the nodes of a type has: those that it met, and those that wait to be met. All denote types that
-- stand in the type of the first, and with each that was met come those that stand in it.
pub record IsSearch (nodes : List Node) (start : ℕ) (met waiting : List ℕ) : Type 0 where
  pub begins : Contains met start ⊎ Contains waiting start
  pub closed : (id child : ℕ) (node : Node) → Contains met id → IsNode nodes id node → Contains (children node) child
      → Contains met child ⊎ Contains waiting child
  pub within : (id : ℕ) → Contains met id ⊎ Contains waiting id
      → (id < length nodes) × Within (tree nodes start) (tree nodes id)
  -- what stands in a node is less, what waits is less than what was met, and what was met later than what before
  pub lower : (id child : ℕ) (node : Node) → Contains met id → IsNode nodes id node → Contains (children node) child
      → child < id
  pub below : (id other : ℕ) → Contains met id → Contains waiting other → other < id
  pub falls : AreFalling met

-- the nodes of a type, each before those that stand in it
abbrev pub AreNodesOf : List Node → ℕ → List ℕ → Type 0
AreNodesOf nodes start met = IsSearch nodes start met []

-- these are the nodes that stand in a node
pub record AreChildren (nodes : List Node) (id : ℕ) (inner : List ℕ) : Type 0 where
  pub node : Node
  pub stands : IsNode nodes id node
  pub are : inner ≡ children node
  pub falls : AllBelow id (children node)
  pub denotes : tree nodes id ≡ tree_of (retype (tree nodes) (node_shape node))

-- some numbers came to a set
pub record Joins (old new ids : List ℕ) : Type 0 where
  pub kept : (q : ℕ) → Contains old q → Contains new q
  pub added : (q : ℕ) → Contains ids q → Contains new q
  pub only : (q : ℕ) → Contains new q → Contains old q ⊎ Contains ids q

-- the last of some numbers, or another where there are none
abbrev pub last_of : ℕ → List ℕ → ℕ
last_of other [] = other
last_of other (x ∷ xs) = last_of x xs

-- What a replacement keeps, on the way: nodes are made for those of a type, from the last of a list on.
pub record IsMoving (first now : Contents) (put : QName → Tree) (start : ℕ) (met left : List ℕ) (moves : Moves)
    : Type 0 where
  pub extends : Extends first now
  pub adds : AddsOnly (replaced put (tree first.nodes start) ∷ []) first now
  pub denotes : AreMoves now.nodes put moves
  pub falls : AreFalling left
  pub inside : (id : ℕ) → Contains left id → Contains met id
  pub known : (id : ℕ) → Contains met id → Contains left id ⊎ IsMade moves id
