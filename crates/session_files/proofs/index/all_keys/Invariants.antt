use Rattle.std.proofs.Common.{◌≡◌, ◌++◌, map, drop}
use Rattle.session_files.specs.OpenSessions.{all_opened, key_of}
use Rattle.session_files.specs.Index.{keys_from, names_of}
use Rattle.session_files.proofs.index.all_keys.Given as goal

-- The keys so far, and those of the files to come.
abbrev pub invariant-loop-file : goal.invariant-loop-file
invariant-loop-file l =
    map key_of l.keys.items ++ keys_from names_of l.file (all_opened (drop l.file l.files)) ≡ keys_from names_of 0 (all_opened l.files)
