use Rattle.std.proofs.Common.{ℕ, subst, inl, inr, arith}
use Rattle.std.proofs.lemmas.Bool.{cases_eq}
use Rattle.cycle_rules.specs.Cycles.{IsCyclic}
use Rattle.cycle_rules.proofs.RankLemmas.{cyclic_within}
use Rattle.cycle_rules.proofs.cycles.Graphs.first.Goals as goal

pub loop-item-preserved : goal.loop-item-preserved
loop-item-preserved c k s below cyclic = elim (cases_eq s c.loop-item.item) [
  | inl same ↦ c.in_default.ensures k (subst (λ (n : ℕ). IsCyclic c.args.self.now.shapes.now k n) same cyclic)
  | inr other ↦ c.loop-item.invariant k s (omega arith) cyclic
]

pub returns-clause-none : goal.returns-clause-none
returns-clause-none c kind s cyclic =
    let within = cyclic_within c.args.self.now.shapes.now kind s cyclic in
    c.loop-item.invariant kind s (omega (arith, c.loop-item-test.false)) cyclic
