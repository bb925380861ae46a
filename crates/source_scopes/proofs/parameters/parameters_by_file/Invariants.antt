use Rattle.std.proofs.Common.{[], map}
use Rattle.source_walk.specs.Rows.{written_parsed}
use Rattle.source_walk.specs.Spots.{scope}
use Rattle.source_walk.proofs.ListedRows.{Listed}
use Rattle.source_scopes.specs.Imports.{parameter_table}
use Rattle.source_scopes.proofs.parameters.parameters_by_file.Given as goal

abbrev pub invariant-loop-file : goal.invariant-loop-file
invariant-loop-file l = Listed (λ i fs. map (λ f. map scope f.tops) (map written_parsed fs)) [] l.files l.file-index (map (λ tables. map parameter_table tables.items) l.found.items)
