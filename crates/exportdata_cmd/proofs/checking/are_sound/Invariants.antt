use Rattle.std.proofs.Common.{◌≡◌, drop}
use Rattle.exportdata_cmd.specs.Checking.{are_sound}
use Rattle.exportdata_cmd.proofs.checking.are_sound.Given as goal

-- nothing is wrong with the names before
abbrev pub invariant-loop-verdict : goal.invariant-loop-verdict
invariant-loop-verdict l = are_sound l.verdicts ≡ are_sound (drop l.verdict-index l.verdicts)
