use Rattle.std.proofs.Common.{◌+◌, map, sym, subst, arith}
use Rattle.std.proofs.lemmas.List.{length-map}
use Rattle.std.proofs.lemmas.Option.{slice_get-get_or}
use Rattle.cycle_rules.specs.Paths.{Arrow, TellsCycles}
use Rattle.cycle_rules.proofs.PlaceLemmas.{at-map}
use Rattle.cycle_rules.proofs.SearchLemmas.{told_more}
use Rattle.cycle_rules.proofs.components.on_cycles.Goals as goal

pub has_rank-requires : goal.has_rank-requires
has_rank-requires c =
    let graph = c.args.graph.now in
    let row = at-map (λ t. t.now) graph c.loop-node.node _ c.loop-node-test.true in
    record { inside = λ k v at. let w = c.requires.graph c.loop-node.node v (record { targets = _; place = k; from = row; to = at }) in let s = c.requires.ranks.sized in omega arith }

pub loop-node-preserved : goal.loop-node-preserved
loop-node-preserved c =
    let graph = c.args.graph.now in
    let rows = map (λ t. t.now) graph in
    let ranks = c.args.ranks.now in
    let node = c.loop-node.node in
    let row = at-map (λ t. t.now) graph node _ c.loop-node-test.true in
    let s = c.requires.ranks.sized in
    let l = length-map graph (λ t. t.now) in
    let own = slice_get-get_or ranks node 0 (omega (arith, c.loop-node-test.true)) in
    subst (TellsCycles (Arrow rows) (node + 1)) (sym c.in_ok-push.ensures.items)
    (told_more rows ranks c.requires.ranks node _ _ row own c.has_rank.result c.has_rank.ensures.some c.has_rank.ensures.none c.loop-node.told.items c.loop-node.invariant)
