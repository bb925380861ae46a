use Rattle.std.proofs.Common.{◌≡◌, ℕ, List, length, map, ◌∙◌, subst, sym, ap, arith, refl}
use Rattle.std.proofs.lemmas.List.{length-map}
use Rattle.std.proofs.lemmas.Result.{IfOk-weaker}
use Rattle.cycle_rules.specs.declared.cycles.CycleKind.TheVariants.{Contains}
use Rattle.cycle_rules.specs.Paths.{Arrow}
use Rattle.cycle_rules.specs.Cycles.{IsEdge, IsRanked}
use Rattle.cycle_rules.proofs.RankLemmas.{ranked_contained, owned_within}
use Rattle.cycle_rules.proofs.cycles.rank_contained.Goals as goal

pub rank_graph-requires-clause-graph : goal.rank_graph-requires-clause-graph
rank_graph-requires-clause-graph c a b arrow =
    let shapes = c.args.shapes.now in
    let lent = c.deref-2.result.now in
    let rows = c.in_ok-contained.contained.items in
    let same : map (λ t. t.now) lent ≡ map (λ r. r.items) rows = rw (c.deref-2.ensures.value, c.in_ok-graph.ensures, c.deref.ensures.value) refl in
    let count = sym (length-map lent (λ t. t.now)) ∙ ap length same ∙ length-map rows (λ r. r.items) ∙ c.in_ok-contained.ensures.sized in
    let own = subst (λ (g : List (List ℕ)). Arrow g a b) same arrow in
    let below = owned_within shapes c.requires.shapes.forms a b (c.in_ok-contained.ensures.sound a b own) in
    let long = length-map lent (λ t. t.now) in
    omega (arith, below, count, long)

pub returns : goal.returns
returns c =
    let shapes = c.args.shapes.now in
    let lent = c.deref-2.result.now in
    let rows = c.in_ok-contained.contained.items in
    let same : map (λ t. t.now) lent ≡ map (λ r. r.items) rows = rw (c.deref-2.ensures.value, c.in_ok-graph.ensures, c.deref.ensures.value) refl in
    let count = sym (length-map lent (λ t. t.now)) ∙ ap length same ∙ length-map rows (λ r. r.items) ∙ c.in_ok-contained.ensures.sized in
    IfOk-weaker c.rank_graph.result (IsRanked (Arrow (map (λ t. t.now) lent)) (length lent)) (IsRanked (IsEdge shapes Contains) (length shapes))
    (λ ranked was. ranked_contained shapes (map (λ t. t.now) lent) (map (λ r. r.items) rows) (length lent) ranked same count c.in_ok-contained.ensures.sound c.in_ok-contained.ensures.every was) c.rank_graph.ensures
