use Rattle.std.proofs.Common.{map}
use Rattle.source_trees.specs.Words.{word}
use Rattle.source_walk.proofs.ListedRows.{Listed}
use Rattle.source_scopes.specs.Imports.{parameter_word}
use Rattle.source_scopes.proofs.parameters.add_names.Given as goal

abbrev pub invariant-loop-name : goal.invariant-loop-name
invariant-loop-name l = Listed (λ i xs. map (word l.source) xs) (map parameter_word l.fn.parameters.items) l.names l.name-index (map parameter_word l.parameters.items)
