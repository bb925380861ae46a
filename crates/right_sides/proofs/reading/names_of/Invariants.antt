use Rattle.std.proofs.Common.{◌≡◌, map, take}
use Rattle.type_terms.specs.Denotation.{tree}
use Rattle.replacement.specs.Expansion.{parameter_names}
use Rattle.right_sides.proofs.reading.names_of.Given as goal

abbrev pub invariant-loop-id : goal.invariant-loop-id
invariant-loop-id l = l.names.items ≡ parameter_names (map (tree l.arena.nodes) (take l.id-index l.tparams))
