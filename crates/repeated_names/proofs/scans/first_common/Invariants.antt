use Rattle.std.proofs.Common.{◌≡◌, ◌≤◌, length, map, drop, List}
use Rattle.repeated_names.specs.Firsts.{first}
use Rattle.repeated_names.specs.Names.{Named, named}
use Rattle.repeated_names.specs.Repeats.{common}
use Rattle.repeated_names.specs.Tables.{Knows}
use Rattle.repeated_names.proofs.scans.first_common.Given as goal

abbrev pub invariant-loop-left : goal.invariant-loop-left
invariant-loop-left l = ((all : List Named) → Knows l.places all → l.found ≡ first (common (map named (drop l.left l.names)) all)) × (l.left ≤ length l.names)

abbrev pub decreases-loop-left : goal.decreases-loop-left
decreases-loop-left l = l.left
