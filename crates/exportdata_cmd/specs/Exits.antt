-- The exit status of the program.
use Rattle.std.specs.Prelude.{ℕ}
use Rattle.exportdata_cmd.specs.declared.exits.Status.{Status}
use Rattle.exportdata_cmd.specs.declared.exits.Status.TheVariants.{Done, Refused, Words, Files, Output, Memory, Limit}

abbrev pub exit_code : Status → ℕ
exit_code Done = 0
exit_code Refused = 1
exit_code Words = 2
exit_code Files = 3
exit_code Output = 4
exit_code Memory = 5
exit_code Limit = 6
