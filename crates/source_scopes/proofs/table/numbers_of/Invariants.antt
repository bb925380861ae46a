use Rattle.std.proofs.Common.{◌≤◌, length, map, drop}
use Rattle.source_scopes.specs.Tables.{Finds, name_of}
use Rattle.source_scopes.proofs.table.numbers_of.Given as goal

abbrev pub invariant-loop-left : goal.invariant-loop-left
invariant-loop-left g l = Finds l.numbers l.left (map name_of (drop l.left l.items)) × (l.left ≤ length l.items)

abbrev pub decreases-loop-left : goal.decreases-loop-left
decreases-loop-left g l = l.left
