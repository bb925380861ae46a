use Rattle.std.proofs.Common.{map, flat_map}
use Rattle.repeated_names.specs.Names.{named}
use Rattle.source_names.specs.Names.{words_at}
use Rattle.source_walk.proofs.ListedRows.{Listed}
use Rattle.source_names.proofs.declared.add_all.Given as goal

abbrev pub invariant-loop-item : goal.invariant-loop-item
invariant-loop-item g l = Listed (λ i xs. words_at l.source.file (flat_map (g.T.Declares.words l.source.bytes.now) xs))
    (map named l.fn.names.items) l.items l.item-index (map named l.names.items)
