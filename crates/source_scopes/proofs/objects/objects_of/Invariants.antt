use Rattle.std.proofs.Common.{[], map}
use Rattle.source_walk.specs.Rows.{written_parsed}
use Rattle.source_walk.proofs.ListedRows.{Listed}
use Rattle.source_scopes.specs.Objects.{files_objects, object_at}
use Rattle.source_scopes.proofs.objects.objects_of.Given as goal

abbrev pub invariant-loop-number : goal.invariant-loop-number
invariant-loop-number l = Listed (λ i fs. files_objects i (map written_parsed fs)) [] l.files l.number (map object_at l.objects.items)
