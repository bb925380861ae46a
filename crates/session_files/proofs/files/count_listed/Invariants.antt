use Rattle.std.proofs.Common.{◌≡◌, ◌+◌, ◌*◌, ◌≤◌, length, drop}
use Rattle.session_files.specs.Sessions.{all_listed}
use Rattle.session_files.specs.OpenSessions.{all_opened}
use Rattle.session_files.proofs.files.count_listed.Given as goal

abbrev pub invariant-loop-opened : goal.invariant-loop-opened
invariant-loop-opened l =
    (l.count + length (all_listed (all_opened (drop l.opened-index l.files))) ≡ length (all_listed (all_opened l.files)))
    × (l.count ≤ 4294967296 * l.opened-index)
