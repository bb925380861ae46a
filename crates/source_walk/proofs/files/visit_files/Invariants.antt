use Rattle.std.proofs.Common.{map}
use Rattle.source_walk.specs.Rows.{written_parsed}
use Rattle.source_walk.specs.Visits.{numbered, file_visits}
use Rattle.source_walk.proofs.RowLaws.{Going}
use Rattle.source_walk.proofs.files.visit_files.Given as goal

abbrev pub invariant-loop-number : goal.invariant-loop-number
invariant-loop-number g l = Going g.V.Visitor.join (g.V.Visitor.tells l.fn.visitor) (g.V.Visitor.told l.fn.visitor)
    (λ i fs. numbered file_visits i (map written_parsed fs))
    l.files l.number (g.V.Visitor.tells l.visitor) (g.V.Visitor.told l.visitor)
