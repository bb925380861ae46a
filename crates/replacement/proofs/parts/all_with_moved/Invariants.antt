use Rattle.std.proofs.Common.{◌≡◌, map, take}
use Rattle.replacement.specs.Moves.{moved}
use Rattle.replacement.proofs.parts.all_with_moved.Given as goal

abbrev pub invariant-loop-part : goal.invariant-loop-part
invariant-loop-part g l = l.made.items ≡ map (g.T.Part.with (moved l.moves.entries)) (take l.part-index l.parts)
