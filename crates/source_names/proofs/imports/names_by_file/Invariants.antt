use Rattle.std.proofs.Common.{[], map}
use Rattle.repeated_names.specs.Names.{named_group}
use Rattle.source_walk.specs.Rows.{written_parsed}
use Rattle.source_names.specs.Duplicates.{imports_named}
use Rattle.source_walk.proofs.ListedRows.{Listed}
use Rattle.source_names.proofs.imports.names_by_file.Given as goal

abbrev pub invariant-loop-number : goal.invariant-loop-number
invariant-loop-number g l = Listed (λ i fs. imports_named (g.P.Packages.names l.packages) i (map written_parsed fs))
    [] l.files l.number (map named_group l.groups.items)
