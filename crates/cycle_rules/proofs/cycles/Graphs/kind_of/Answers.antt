use Rattle.std.proofs.Common.{refl, arith}
use Rattle.cycle_rules.specs.Cycles.{IsCyclic}
use Rattle.cycle_rules.proofs.RankLemmas.{each_kind}
use Rattle.cycle_rules.proofs.cycles.Graphs.kind_of.Goals as goal

pub returns-then-is_cyclic-2 : goal.returns-then-is_cyclic-2
returns-then-is_cyclic-2 c = (
  c.if-is_cyclic-2.ensures.yes refl,
  each_kind (λ k. IsCyclic c.args.self.now.shapes.now k c.args.item → ⊥) 1
      (λ _. c.if-is_cyclic.ensures.no refl) (λ h. absurd (omega arith)) (λ h. absurd (omega arith)) (λ h. absurd (omega arith)) (λ h. absurd (omega arith)),
)

pub returns-then-is_cyclic-3 : goal.returns-then-is_cyclic-3
returns-then-is_cyclic-3 c = (
  c.if-is_cyclic-3.ensures.yes refl,
  each_kind (λ k. IsCyclic c.args.self.now.shapes.now k c.args.item → ⊥) 2
      (λ _. c.if-is_cyclic.ensures.no refl) (λ _. c.if-is_cyclic-2.ensures.no refl) (λ h. absurd (omega arith)) (λ h. absurd (omega arith)) (λ h. absurd (omega arith)),
)
