use Rattle.std.proofs.Common.{ap, refl, sym}
use Rattle.source_trees.specs.Trees.{written_expr}
use Rattle.source_walk.specs.Rows.{scope_in}
use Rattle.source_walk.specs.Visits.{expr_visits}
use Rattle.source_walk.proofs.RowLaws.{turn}
use Rattle.source_walk.proofs.tops.visit_values.Goals as goal

pub loop-item-preserved : goal.loop-item-preserved
loop-item-preserved g c = turn g.V.Visitor.join _ _ _ _ _ _ _ _ _ _ _ _ c.loop-item.invariant c.loop-item-test.true c.index-values-item.is (λ ys. refl) (ap (λ s. expr_visits s (scope_in c.args.around.now.source.now c.args.around.now.top.now) (written_expr c.args.around.now.source.now c.index-values-item.result)) (sym c.value_of.ensures))
    c.in_ok-visit_expr.ensures.told c.in_ok-visit_expr.ensures.kept
