use Rattle.std.proofs.Common.{map, ◌∙◌}
use Rattle.std.proofs.lemmas.List.{length-map}
use Rattle.cycle_rules.proofs.SearchLemmas.{falls_off}
use Rattle.cycle_rules.proofs.cycles.rank_graph.Goals as goal

pub returns : goal.returns
returns c =
    let graph = map (λ t. t.now) c.args.graph.now in
    record {
      sized = c.in_ok-ranks.ensures.sized ∙ length-map c.args.graph.now (λ t. t.now);
      cyclic = c.in_ok-cyclic.ensures;
      falls = λ s t arrow none. falls_off graph c.in_ok-ranks.ranks.items c.in_ok-ranks.ensures s t arrow none;
    }
