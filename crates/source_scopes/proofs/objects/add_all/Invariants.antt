use Rattle.std.proofs.Common.{map}
use Rattle.source_trees.specs.Words.{word}
use Rattle.source_walk.proofs.ListedRows.{Listed}
use Rattle.source_scopes.specs.Objects.{object, object_at}
use Rattle.source_scopes.proofs.objects.add_all.Given as goal

abbrev pub invariant-loop-name : goal.invariant-loop-name
invariant-loop-name l = Listed (λ i xs. map (object l.kind l.source.file) (map (word l.source.bytes.now) xs))
    (map object_at l.fn.objects.items) l.names l.name-index (map object_at l.objects.items)
