use Rattle.std.proofs.Common.{◌≡◌, ◌++◌, map, drop}
use Rattle.name_index.specs.FullFile.{listed}
use Rattle.session_files.specs.OpenSessions.{key_of}
use Rattle.session_files.specs.Index.{keys_in}
use Rattle.session_files.proofs.index.put_keys.Given as goal

-- The keys so far, and those of the names to come.
abbrev pub invariant-loop-number : goal.invariant-loop-number
invariant-loop-number l =
    map key_of l.keys.items ++ keys_in l.file l.number (drop l.number (listed l.image.packages))
    ≡ map key_of l.fn.keys.items ++ keys_in l.file 0 (listed l.image.packages)
