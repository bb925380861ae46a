use Rattle.std.proofs.Common.{◌≡◌, ◌++◌, map, drop}
use Rattle.session_files.specs.OpenSessions.{all_opened, key_of}
use Rattle.session_files.specs.Index.{keys_from}
use Rattle.session_files.specs.PathIndex.{paths_of}
use Rattle.session_files.proofs.packages.all_paths.Given as goal

-- The keys so far, and those of the files to come.
abbrev pub invariant-loop-file : goal.invariant-loop-file
invariant-loop-file l =
    map key_of l.keys.items ++ keys_from paths_of l.file (all_opened (drop l.file l.files)) ≡ keys_from paths_of 0 (all_opened l.files)
