use Rattle.std.proofs.Common.{map}
use Rattle.source_trees.specs.Files.{written_import}
use Rattle.source_names.specs.Duplicates.{import_inits}
use Rattle.source_names.proofs.RowLaws.{Searched}
use Rattle.source_names.proofs.inits.init_of_imports.Given as goal

abbrev pub invariant-loop-import : goal.invariant-loop-import
invariant-loop-import l = Searched (λ i xs. import_inits l.source.file (map (written_import l.source.bytes.now) xs)) l.imports l.import-index l.found
