use Rattle.std.proofs.Common.{◌≡◌, map, take}
use Rattle.written_nodes.specs.Nodes.{element_in}
use Rattle.written_nodes.proofs.elements.elements.Given as goal

abbrev pub invariant-loop-id : goal.invariant-loop-id
invariant-loop-id l = l.all.items ≡ map (element_in l.nodes.nodes) (take l.id-index l.ids)
