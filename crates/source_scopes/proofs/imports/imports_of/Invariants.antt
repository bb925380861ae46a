use Rattle.std.proofs.Common.{[], map}
use Rattle.source_trees.specs.Files.{written_import}
use Rattle.source_walk.proofs.ListedRows.{Listed}
use Rattle.source_scopes.specs.Objects.{imported_as, imports_in}
use Rattle.source_scopes.proofs.imports.imports_of.Given as goal

abbrev pub invariant-loop-import : goal.invariant-loop-import
invariant-loop-import g l = Listed (λ i xs. imports_in (g.P.Packages.names l.packages) (map (written_import l.source.bytes.now) xs))
    [] l.imports l.import-index (map imported_as l.found.items)
