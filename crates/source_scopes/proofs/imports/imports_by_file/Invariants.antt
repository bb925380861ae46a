use Rattle.std.proofs.Common.{[], map}
use Rattle.source_walk.specs.Rows.{written_parsed}
use Rattle.source_walk.proofs.ListedRows.{Listed}
use Rattle.source_scopes.specs.Imports.{imported_table}
use Rattle.source_scopes.specs.Objects.{imports_in}
use Rattle.source_scopes.proofs.imports.imports_by_file.Given as goal

abbrev pub invariant-loop-number : goal.invariant-loop-number
invariant-loop-number g l = Listed (λ i fs. map (λ f. imports_in (g.P.Packages.names l.packages) f.imports) (map written_parsed fs))
    [] l.files l.number (map imported_table l.tables.items)
