-- What two nodes of an arena demand of each other.
use Rattle.std.specs.Prelude.{ℕ, ◌<◌, List, [], map, Option}
use Rattle.std.specs.List.{AllByRecursion}
use Rattle.go_values.specs.declared.qualified.QName.{QName}
use Rattle.type_terms.specs.declared.descriptors.Node.{Node}
use Rattle.type_terms.specs.Denotation.{tree}
use Rattle.type_terms.specs.Names.{defined_name}
use Rattle.type_terms.specs.NodeShapes.{node_shape}
use Rattle.type_alike.specs.Sides.{Pair as TreePair, pair}
use Rattle.type_alike.specs.Demands.{Demand as DemandOf, differ, parts, sets, demand}
use Rattle.type_demands.specs.declared.demands.Pair.{Pair}
use Rattle.type_demands.specs.declared.demands.Demand.{Demand}
use Rattle.type_demands.specs.declared.demands.Demand.TheVariants.{Differ, Parts, Sets}

abbrev pub node_pair : ℕ → ℕ → Pair
node_pair left right = record { left = left; right = right }

-- the types of two nodes
abbrev pub pair_tree : List Node → Pair → TreePair
pair_tree nodes x = pair (tree nodes x.left) (tree nodes x.right)

abbrev pub meant : Demand → DemandOf Pair
meant Differ = differ
meant (Parts pairs) = parts pairs.items
meant Sets = sets

-- the same demand, over other pairs
abbrev pub demand_map : {P Q : Type 0} → (P → Q) → DemandOf P → DemandOf Q
demand_map f differ = differ
demand_map f (parts pairs) = parts (map f pairs)
demand_map f sets = sets

-- the defined type that a node is
abbrev pub generic_at : List Node → ℕ → Option QName
generic_at nodes id = defined_name (tree nodes id)

abbrev pub node_demand : List Node → Node → Node → DemandOf Pair
node_demand nodes left right = demand (generic_at nodes) node_pair (node_shape left) (node_shape right)

-- both nodes stand in an arena of so many
abbrev pub IsInside : ℕ → Pair → Type 0
IsInside n x = (x.left < n) × (x.right < n)

abbrev pub AreInside : ℕ → List Pair → Type 0
AreInside n = AllByRecursion (IsInside n)

abbrev pub demand_pairs : Demand → List Pair
demand_pairs (Parts pairs) = pairs.items
demand_pairs _ = []
