use Rattle.std.proofs.Common.{map}
use Rattle.source_trees.specs.Files.{written_tparam}
use Rattle.source_walk.specs.Spots.{tparam_words}
use Rattle.source_walk.proofs.ListedRows.{Listed}
use Rattle.source_scopes.specs.Imports.{parameter_word}
use Rattle.source_scopes.proofs.parameters.add_tparams.Given as goal

abbrev pub invariant-loop-tparam : goal.invariant-loop-tparam
invariant-loop-tparam l = Listed (λ i xs. tparam_words (map (written_tparam l.source) xs)) (map parameter_word l.fn.parameters.items) l.tparams l.tparam-index (map parameter_word l.parameters.items)
