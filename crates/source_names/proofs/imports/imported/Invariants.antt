use Rattle.std.proofs.Common.{[], map}
use Rattle.repeated_names.specs.Names.{named}
use Rattle.source_trees.specs.Files.{written_import}
use Rattle.source_names.specs.Duplicates.{import_words}
use Rattle.source_names.specs.Names.{words_at}
use Rattle.source_walk.proofs.ListedRows.{Listed}
use Rattle.source_names.proofs.imports.imported.Given as goal

abbrev pub invariant-loop-import : goal.invariant-loop-import
invariant-loop-import g l = Listed (λ i xs. words_at l.source.file (import_words (g.P.Packages.names l.packages) (map (written_import l.source.bytes.now) xs)))
    [] l.imports l.import-index (map named l.names.items)
