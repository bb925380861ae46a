use Rattle.std.proofs.Common.{ap, refl, sym}
use Rattle.source_trees.specs.Trees.{written_type}
use Rattle.source_walk.specs.Rows.{scope_in}
use Rattle.source_walk.specs.Visits.{type_visits}
use Rattle.source_walk.proofs.RowLaws.{turn}
use Rattle.source_walk.proofs.tops.visit_tparams.Goals as goal

pub loop-tparam-preserved : goal.loop-tparam-preserved
loop-tparam-preserved g c = turn g.V.Visitor.join _ _ _ _ _ _ _ _ _ _ _ _ c.loop-tparam.invariant c.loop-tparam-test.true c.tparam-item.is (λ ys. refl) (ap (λ s. type_visits s (scope_in c.args.around.now.source.now c.args.around.now.top.now) (written_type c.args.around.now.source.now c.tparam-item.result.constraint)) (sym c.constraint.ensures))
    c.in_ok-visit_type.ensures.told c.in_ok-visit_type.ensures.kept
