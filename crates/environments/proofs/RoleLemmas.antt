-- The number of type parameters, as nodes and as trees.
use Rattle.std.proofs.Common.{◌≡◌, ℕ, List, length, map}
use Rattle.std.proofs.lemmas.List.{length-map}
use Rattle.type_terms.specs.declared.descriptors.Node.{Node}
use Rattle.type_terms.specs.Denotation.{tree}

pub counts_stay : (nodes : List Node) (ids : List ℕ) → length (map (tree nodes) ids) ≡ length ids
counts_stay nodes ids = length-map ids (tree nodes)
