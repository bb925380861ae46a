use Rattle.std.proofs.Common.{◌≡◌, drop, map}
use Rattle.exportdata_cmd.specs.Checking.{verdict_status}
use Rattle.exportdata_cmd.proofs.checking.verdict_status.Given as goal

-- nothing is wrong with the files before
abbrev pub invariant-loop-verdicts : goal.invariant-loop-verdicts
invariant-loop-verdicts l =
    verdict_status (map (λ v. v.items) l.files) ≡ verdict_status (map (λ v. v.items) (drop l.verdicts-index l.files))
