use Rattle.std.proofs.Common.{◌≡◌, ◌≤◌, length, map, drop}
use Rattle.repeated_names.specs.Firsts.{first}
use Rattle.repeated_names.specs.Names.{named}
use Rattle.repeated_names.specs.Repeats.{repeats}
use Rattle.repeated_names.specs.Tables.{Knows}
use Rattle.repeated_names.proofs.scans.scan.Given as goal

abbrev pub invariant-loop-left : goal.invariant-loop-left
invariant-loop-left l = Knows l.places (map named (drop l.left l.names)) × (l.repeat ≡ first (repeats (map named (drop l.left l.names)))) × (l.left ≤ length l.names)

abbrev pub decreases-loop-left : goal.decreases-loop-left
decreases-loop-left l = l.left
