use Rattle.std.proofs.Common.{subst, List}
use Rattle.cycle_rules.specs.declared.shapes.DeclShape.{DeclShape}
use Rattle.cycle_rules.specs.Cycles.{IsCyclic}
use Rattle.cycle_rules.proofs.cycles.check_cycles.Goals as goal

pub returns-clause-acyclic : goal.returns-clause-acyclic
returns-clause-acyclic c kind s = subst (λ (l : List DeclShape). IsCyclic l kind s → ⊥) c.in_ok-graphs.ensures.same (c.in_default.ensures.none kind s)
