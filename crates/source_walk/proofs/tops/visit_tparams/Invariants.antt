use Rattle.std.proofs.Common.{map}
use Rattle.source_trees.specs.Files.{written_tparam}
use Rattle.source_walk.specs.Rows.{scope_in}
use Rattle.source_walk.specs.Visits.{tparams_visits}
use Rattle.source_walk.proofs.RowLaws.{Going}
use Rattle.source_walk.proofs.tops.visit_tparams.Given as goal

abbrev pub invariant-loop-tparam : goal.invariant-loop-tparam
invariant-loop-tparam g l = Going g.V.Visitor.join (g.V.Visitor.tells l.fn.visitor) (g.V.Visitor.told l.fn.visitor)
    (λ i ps. tparams_visits l.spot (scope_in l.around.source.now l.around.top.now) (map (written_tparam l.around.source.now) ps))
    l.tparams l.tparam-index (g.V.Visitor.tells l.visitor) (g.V.Visitor.told l.visitor)
