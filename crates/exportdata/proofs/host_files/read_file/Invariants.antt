use Rattle.std.proofs.Common.{◌-◌, ◌≤◌}
use Rattle.exportdata.specs.Growth.{Grows}
use Rattle.exportdata.proofs.host_files.read_file.Given as goal

-- what was read is within what is no longer left
abbrev pub invariant-loop : goal.invariant-loop
invariant-loop g l = (l.left ≤ l.limit) × Grows (l.limit - l.left) l.fn.into.items l.into.items
