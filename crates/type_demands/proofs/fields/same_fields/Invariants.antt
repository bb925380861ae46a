use Rattle.std.proofs.Common.{◌≡◌, map, drop}
use Rattle.type_terms.specs.NodeShapes.{field_shape}
use Rattle.type_alike.specs.Demands.{same_fields}
use Rattle.type_demands.proofs.fields.same_fields.Given as goal

abbrev pub invariant-loop-k : goal.invariant-loop-k
invariant-loop-k l =
    same_fields l.home l.other (map field_shape (drop l.k l.left)) (map field_shape (drop l.k l.right))
    ≡ same_fields l.home l.other (map field_shape l.left) (map field_shape l.right)
