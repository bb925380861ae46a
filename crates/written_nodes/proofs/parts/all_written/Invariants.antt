use Rattle.std.proofs.Common.{◌≡◌, map, take}
use Rattle.written_nodes.specs.Pools.{number_for}
use Rattle.written_nodes.proofs.parts.all_written.Given as goal

abbrev pub invariant-loop-part : goal.invariant-loop-part
invariant-loop-part g l = l.all.items ≡ map (g.T.Part.with (number_for l.made.entries)) (take l.part-index l.parts)
