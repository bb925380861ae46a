use Rattle.std.proofs.Common.{◌≡◌, ℕ, ◌++◌, map, drop, Option}
use Rattle.go_values.specs.declared.qualified.QName.{QName}
use Rattle.type_alike.specs.Demands.{in_step}
use Rattle.type_demands.specs.NodeDemands.{node_pair}
use Rattle.type_demands.proofs.in_step.push_in_step.Given as goal

abbrev pub invariant-loop-k : goal.invariant-loop-k
invariant-loop-k g l = (generic : ℕ → Option QName) →
    l.into.items ++ in_step generic node_pair (map g.T.Typed.type_of (drop l.k l.left)) (map g.T.Typed.type_of (drop l.k l.right))
    ≡ l.fn.into.items ++ in_step generic node_pair (map g.T.Typed.type_of l.left) (map g.T.Typed.type_of l.right)
