use Rattle.std.proofs.Common.{◌∙◌, ◌<◌, length, sym, refl, inl, inr, arith}
use Rattle.std.proofs.lemmas.Bool.{eqb-true}
use Rattle.std.proofs.lemmas.Map.Views.{Contains-from_any}
use Rattle.std.proofs.lemmas.Result.{on_ok_weaker}
use Rattle.type_terms.specs.NodeShapes.{children}
use Rattle.type_terms.specs.Denoted.{all_weaker}
use Rattle.environments.proofs.reference_walk.Walk.visit_once.Goals as goal

pub returns-then-contains : goal.returns-then-contains
returns-then-contains c = inl (Contains-from_any (λ x y same. eqb-true x y same) c.args.id c.args.self.now.finished.keys (sym c.contains.ensures ∙ c.if-contains.true), refl)

pub returns-else-contains : goal.returns-else-contains
returns-else-contains c =
    let nodes = c.args.arena.now.nodes in
    let below = all_weaker (λ n. n < c.args.id) (λ n. n < length nodes) (λ n less. omega (arith, c.requires.there)) (children c.node.result.now) c.node.ensures.falls in
    on_ok_weaker c.visit.result (λ visited. inr (c.node.result.now, record { denotes = c.node.ensures.denotes; below = below }, visited)) c.visit.ensures
