use Rattle.std.proofs.Common.{map}
use Rattle.source_trees.specs.Trees.{written_expr}
use Rattle.source_walk.specs.Rows.{scope_in}
use Rattle.source_walk.specs.Visits.{numbered, value_visits}
use Rattle.source_walk.proofs.RowLaws.{Going}
use Rattle.source_walk.proofs.tops.visit_values.Given as goal

abbrev pub invariant-loop-item : goal.invariant-loop-item
invariant-loop-item g l = Going g.V.Visitor.join (g.V.Visitor.tells l.fn.visitor) (g.V.Visitor.told l.fn.visitor)
    (λ i vs. numbered (value_visits l.spot (scope_in l.around.source.now l.around.top.now)) i (map (written_expr l.around.source.now) vs))
    l.values l.item (g.V.Visitor.tells l.visitor) (g.V.Visitor.told l.visitor)
