use Rattle.std.proofs.Common.{◌≡◌, ◌≤◌, map, take}
use Rattle.session_files.specs.OpenSessions.{all_opened}
use Rattle.session_files.specs.Loading.{word_of}
use Rattle.session_files.proofs.LoadingLemmas.{IsTakenIn}
use Rattle.session_files.proofs.loading.take_all_in.Given as goal

abbrev pub invariant-loop-source : goal.invariant-loop-source
invariant-loop-source g l =
    IsTakenIn (g.F.Files.held l.fn.device) (map word_of (take l.source-index l.sources)) (all_opened l.files.items) l.bytes
    × (g.F.Files.held l.device ≡ g.F.Files.held l.fn.device) × (g.F.Files.faults l.fn.device ≤ g.F.Files.faults l.device)
