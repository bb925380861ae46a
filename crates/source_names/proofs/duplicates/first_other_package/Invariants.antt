use Rattle.std.proofs.Common.{map}
use Rattle.source_walk.specs.Rows.{written_parsed}
use Rattle.source_names.specs.Duplicates.{other_packages}
use Rattle.source_names.proofs.RowLaws.{Searched}
use Rattle.source_names.proofs.duplicates.first_other_package.Given as goal

abbrev pub invariant-loop-number : goal.invariant-loop-number
invariant-loop-number l = Searched (λ i fs. other_packages l.name i (map written_parsed fs)) l.files l.number l.found
