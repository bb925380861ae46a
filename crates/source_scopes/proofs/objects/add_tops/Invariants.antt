use Rattle.std.proofs.Common.{map}
use Rattle.source_trees.specs.Files.{written_tops}
use Rattle.source_walk.proofs.ListedRows.{Listed}
use Rattle.source_scopes.specs.Objects.{object_at, tops_objects}
use Rattle.source_scopes.proofs.objects.add_tops.Given as goal

abbrev pub invariant-loop-top : goal.invariant-loop-top
invariant-loop-top l = Listed (λ i xs. tops_objects l.source.file (written_tops l.source.bytes.now l.tops i xs))
    (map object_at l.fn.objects.items) l.tops l.top-index (map object_at l.objects.items)
