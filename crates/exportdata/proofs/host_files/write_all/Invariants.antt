-- What is gone from the rest was written.
use Rattle.std.proofs.Common.{◌≡◌, List, ℕ, ◌++◌}
use Rattle.std.specs.Io.KnownBytes.{Appends}
use Rattle.exportdata.proofs.host_files.write_all.Given as goal

abbrev pub invariant-loop : goal.invariant-loop
invariant-loop g l = (done : List ℕ) × (l.initial.rest ≡ done ++ l.rest) × Appends (g.W.Write.contents l.initial.to) (g.W.Write.contents l.to) done
