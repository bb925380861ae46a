use Rattle.std.proofs.Common.{refl}
use Rattle.source_walk.specs.Rows.{written_parsed}
use Rattle.source_walk.specs.Visits.{file_visits}
use Rattle.source_walk.proofs.RowLaws.{turn}
use Rattle.source_walk.proofs.files.visit_files.Goals as goal

pub loop-number-preserved : goal.loop-number-preserved
loop-number-preserved g c = turn g.V.Visitor.join _ _ _ _ _ _ _ _ _ _ (file_visits c.loop-number.number (written_parsed c.index-files-number.result)) _ c.loop-number.invariant c.loop-number-test.true c.index-files-number.is (λ ys. refl) (refl)
    c.in_ok-visit_file.ensures.told c.in_ok-visit_file.ensures.kept
