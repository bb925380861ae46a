use Rattle.std.proofs.Common.{[], map}
use Rattle.source_trees.specs.Files.{written_tops}
use Rattle.source_walk.specs.Spots.{scope}
use Rattle.source_walk.proofs.ListedRows.{Listed}
use Rattle.source_scopes.specs.Imports.{parameter_table}
use Rattle.source_scopes.proofs.parameters.parameters_by_top.Given as goal

abbrev pub invariant-loop-top : goal.invariant-loop-top
invariant-loop-top l = Listed (λ i xs. map scope (written_tops l.source l.tops i xs)) [] l.tops l.top-index (map parameter_table l.tables.items)
