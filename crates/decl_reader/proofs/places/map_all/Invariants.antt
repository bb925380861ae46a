use Rattle.std.proofs.Common.{◌≡◌, take}
use Rattle.decl_reader.proofs.places.map_all.Given as goal

-- Those so far are in the map.
abbrev pub invariant-loop-start : goal.invariant-loop-start
invariant-loop-start l = l.mapped.entries ≡ take l.start-index l.listed
