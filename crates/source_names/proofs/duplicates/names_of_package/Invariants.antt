use Rattle.std.proofs.Common.{[], map}
use Rattle.repeated_names.specs.Names.{named}
use Rattle.source_walk.specs.Rows.{written_parsed}
use Rattle.source_names.specs.Names.{files_named}
use Rattle.source_walk.proofs.ListedRows.{Listed}
use Rattle.source_names.proofs.duplicates.names_of_package.Given as goal

abbrev pub invariant-loop-number : goal.invariant-loop-number
invariant-loop-number l = Listed (λ i fs. files_named i (map written_parsed fs)) [] l.files l.number (map named l.names.items)
