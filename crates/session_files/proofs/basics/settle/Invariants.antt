use Rattle.std.proofs.Common.{◌≡◌, ◌++◌, map, drop}
use Rattle.session_files.specs.Ways.{settled}
use Rattle.session_files.proofs.basics.settle.Given as goal

abbrev pub invariant-loop-way : goal.invariant-loop-way
invariant-loop-way l = l.basics.items ++ map settled (drop l.way-index l.ways) ≡ map settled l.ways
