use Rattle.std.proofs.Common.{refl}
use Rattle.source_trees.specs.Files.{written_top}
use Rattle.source_walk.specs.Visits.{top_visits}
use Rattle.source_walk.proofs.RowLaws.{turn}
use Rattle.source_walk.proofs.tops.visit_tops.Goals as goal

pub loop-number-preserved : goal.loop-number-preserved
loop-number-preserved g c = turn g.V.Visitor.join _ _ _ _ _ _ _ _ _ _ (top_visits c.args.file c.loop-number.number (written_top c.args.source.now c.args.tops.now c.loop-number.number c.index-tops-number.result)) _ c.loop-number.invariant c.loop-number-test.true c.index-tops-number.is (λ ys. refl) (refl)
    c.in_ok-visit_top.ensures.told c.in_ok-visit_top.ensures.kept
