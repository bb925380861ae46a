use Rattle.std.proofs.Common.{◌≡◌, length, map, ◌∙◌, sym, ap}
use Rattle.std.proofs.lemmas.List.{length-map}
use Rattle.std.proofs.lemmas.Result.{IfOk-weaker}
use Rattle.cycle_rules.specs.Paths.{Arrow}
use Rattle.cycle_rules.specs.Cycles.{targets_of, IsEdge, IsRanked}
use Rattle.cycle_rules.proofs.RankLemmas.{ranked_listed}
use Rattle.cycle_rules.proofs.cycles.rank_listed.Goals as goal

pub rank_graph-requires-clause-graph : goal.rank_graph-requires-clause-graph
rank_graph-requires-clause-graph c = rw (c.deref.ensures.value, c.in_ok-graph.ensures) (c.requires.shapes.lists c.args.kind)

pub returns : goal.returns
returns c =
    let shapes = c.args.shapes.now in
    let lent = c.deref.result.now in
    let same : map (λ t. t.now) lent ≡ map (targets_of c.args.kind) shapes = rw c.deref.ensures.value c.in_ok-graph.ensures in
    let count : length lent ≡ length shapes = sym (length-map lent (λ t. t.now)) ∙ ap length same ∙ length-map shapes (targets_of c.args.kind) in
    IfOk-weaker c.rank_graph.result (IsRanked (Arrow (map (λ t. t.now) lent)) (length lent)) (IsRanked (IsEdge shapes c.args.kind) (length shapes))
    (λ ranked was. ranked_listed shapes c.args.kind (map (λ t. t.now) lent) (length lent) ranked c.requires.kind same count was) c.rank_graph.ensures
