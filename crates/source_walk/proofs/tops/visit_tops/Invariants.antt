use Rattle.source_trees.specs.Files.{written_tops}
use Rattle.source_walk.specs.Visits.{numbered, top_visits}
use Rattle.source_walk.proofs.RowLaws.{Going}
use Rattle.source_walk.proofs.tops.visit_tops.Given as goal

abbrev pub invariant-loop-number : goal.invariant-loop-number
invariant-loop-number g l = Going g.V.Visitor.join (g.V.Visitor.tells l.fn.visitor) (g.V.Visitor.told l.fn.visitor)
    (λ i ts. numbered (top_visits l.file) i (written_tops l.source l.tops i ts))
    l.tops l.number (g.V.Visitor.tells l.visitor) (g.V.Visitor.told l.visitor)
