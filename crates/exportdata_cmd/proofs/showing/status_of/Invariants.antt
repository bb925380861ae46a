use Rattle.std.proofs.Common.{◌≡◌, drop}
use Rattle.exportdata_cmd.specs.LookedUp.{found_status}
use Rattle.exportdata_cmd.proofs.showing.status_of.Given as goal

-- what was found before the place says nothing against it
abbrev pub invariant-loop-one : goal.invariant-loop-one
invariant-loop-one l = found_status l.found ≡ found_status (drop l.one-index l.found)
