-- The comparison of types as a walk over pairs, which decides identity.
use Rattle.std.specs.Prelude.{ℕ, List, [], Option, Some, None, Result, Ok}
use Rattle.pair_walk.specs.Walk.{Walked, visits, walk}
use Rattle.replacement.specs.declared.faults.SetFault.{SetFault}
use Rattle.type_terms.specs.Names.{defined_name}
use Rattle.type_terms.specs.Trees.{level_of}
use Rattle.type_alike.specs.Sides.{Sides, Pair, pair, same_pair, settle}
use Rattle.type_alike.specs.Demands.{Demand, differ, parts, sets, demand}
use Rattle.type_alike.specs.Sets.{by_sets}

-- so many pairs may be compared
unfoldable pub pair_limit : ℕ
pair_limit = 65536

abbrev pub tree_demand : Pair → Demand Pair
tree_demand x = demand defined_name pair (level_of x.left) (level_of x.right)

abbrev pub answered : Sides → Pair → Demand Pair → Result (Option (List Pair)) SetFault
answered sides x differ = Ok None
answered sides x (parts pairs) = Ok (Some pairs)
answered sides x sets = by_sets sides x

-- the pairs to which two types lead that have no alias at the head, or none where they differ at this level
abbrev pub steps : Sides → Pair → Result (Option (List Pair)) SetFault
steps sides x = answered sides x (tree_demand x)

-- all pairs are compared that these lead to, each once
abbrev pub compared : Sides → List Pair → Walked Pair SetFault
compared sides starts = walk (settle sides) same_pair (steps sides) pair_limit [] (visits 0 starts)
