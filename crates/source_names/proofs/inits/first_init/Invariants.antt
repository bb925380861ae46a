use Rattle.std.proofs.Common.{map}
use Rattle.source_trees.specs.Words.{word}
use Rattle.source_names.specs.Duplicates.{inits}
use Rattle.source_names.proofs.RowLaws.{Searched}
use Rattle.source_names.proofs.inits.first_init.Given as goal

abbrev pub invariant-loop-name : goal.invariant-loop-name
invariant-loop-name l = Searched (λ i xs. inits l.source.file (map (word l.source.bytes.now) xs)) l.names l.name-index l.found
