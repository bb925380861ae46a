use Rattle.std.proofs.Common.{◌≡◌, ℕ, length, map, replicate, arith, ap, ◌∙◌, sym}
use Rattle.std.proofs.lemmas.List.{length-map}
use Rattle.cycle_rules.specs.declared.components.Mark.TheVariants.{New}
use Rattle.cycle_rules.proofs.SearchLemmas.{started}
use Rattle.cycle_rules.proofs.components.Search.new.Goals as goal

pub returns-clause-search : goal.returns-clause-search
returns-clause-search c =
    let graph = c.args.graph.now in
    let marks = c.in_ok-vec.field-0 in
    let l = length-map graph (λ t. t.now) in
    let all = c.in_ok-vec.ensures.items_if_clones_equal (λ y e. e) in
    let count = c.loop-node.invariant.count in
    let end : c.loop-node.node ≡ length graph = omega (arith, c.loop-node.auto.node-end) in
    let found = started (map (λ t. t.now) graph) marks.items c.loop-node.pending.items (all ∙ ap (λ (n : ℕ). replicate n New) (sym l)) (omega (arith, marks.ok.0, c.in_ok-vec.ensures.len)) (omega arith)
    (λ v below. c.loop-node.invariant.each v (omega arith)) in
    rw (c.new.ensures.items, c.new-2.ensures.items) found
