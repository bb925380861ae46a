use Rattle.std.proofs.Common.{ℕ, ◌<◌, List, length, arith}
use Rattle.std.proofs.lemmas.List.{length-map}
use Rattle.cycle_rules.specs.Search.{edges_of}
use Rattle.cycle_rules.proofs.PlaceLemmas.{at-last, at-map}
use Rattle.cycle_rules.proofs.EnterLemmas.{entered_as, count-opened}
use Rattle.cycle_rules.proofs.components.Search.enter.Goals as goal

pub returns-clause-search : goal.returns-clause-search
returns-clause-search c =
    let self = c.args.self.now in
    let inside : c.args.node < length self.graph.now = omega (arith, c.requires.search.inside (length self.pending.items) c.args.node (at-last self.pending.items c.args.node), length-map {A = _} {B = List ℕ} self.graph.now (λ t. t.now)) in
    entered_as (edges_of self) self.marks.items self.stack.items self.pending.items _ self.bounds.items self.rank c.args.node c.requires.graph
    (at-map (λ t. t.now) self.graph.now c.args.node _ inside) c.requires.search c.requires.room c.requires.new
    c.len-place.result c.len.result _ _ _ (omega (arith, c.len-place.ensures, self.stack.ok.0)) (omega (arith, c.len.ensures, self.pending.ok.0))
    c.in_ok-push-2.ensures.items c.in_ok-extend_from_slice.ensures.items c.in_ok-push.ensures.items

pub returns-clause-fewer : goal.returns-clause-fewer
returns-clause-fewer c = count-opened c.args.self.now.marks.items c.args.node c.len-place.result c.requires.new
