use Rattle.std.proofs.Common.{◌≡◌, ◌<◌, ap, ◌∙◌, arith, length}
use Rattle.type_terms.specs.Denoted.{all_weaker}
use Rattle.type_terms.specs.NodeShapes.{node_shape, children}
use Rattle.type_alike.specs.Comparing.{tree_demand}
use Rattle.type_demands.specs.NodeDemands.{meant, generic_at, pair_tree, demand_map, node_demand, AreInside, demand_pairs}
use Rattle.type_demands.proofs.DemandLemmas.{denoted, if_ok}
use Rattle.type_demands.proofs.InsideLemmas.{found_inside}
use Rattle.type_demands.proofs.demands.demand_of.Goals as goal

pub returns-clause-exact : goal.returns-clause-exact
returns-clause-exact c =
    let nodes = c.args.arena.now.nodes in
    let left = c.node.result.now in
    let right = c.node-2.result.now in
    if_ok (λ found. meant found ≡ node_demand nodes left right)
    (λ found. demand_map (pair_tree nodes) (meant found) ≡ tree_demand (pair_tree nodes c.args.pair.now)) c.demand_between.result
    (λ found is. ap (demand_map (pair_tree nodes)) is ∙ denoted nodes c.args.pair.now.left c.args.pair.now.right left right c.node.ensures.denotes c.node-2.ensures.denotes)
    c.demand_between.ensures

pub returns-clause-within : goal.returns-clause-within
returns-clause-within c =
    let nodes = c.args.arena.now.nodes in
    let left = c.node.result.now in
    let right = c.node-2.result.now in
    let l = c.args.pair.now.left in
    let r = c.args.pair.now.right in
    if_ok (λ found. meant found ≡ node_demand nodes left right) (λ found. AreInside (length nodes) (demand_pairs found)) c.demand_between.result
    (found_inside (length nodes) (generic_at nodes) (node_shape left) (node_shape right)
    (all_weaker (λ n. n < l) (λ n. n < length nodes) (λ n h. omega (arith, c.requires.left)) (children left) c.node.ensures.falls)
    (all_weaker (λ n. n < r) (λ n. n < length nodes) (λ n h. omega (arith, c.requires.right)) (children right) c.node-2.ensures.falls))
    c.demand_between.ensures
