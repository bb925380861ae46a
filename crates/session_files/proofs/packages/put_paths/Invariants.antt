use Rattle.std.proofs.Common.{◌≡◌, ◌++◌, map, drop}
use Rattle.session_files.specs.OpenSessions.{key_of}
use Rattle.session_files.specs.Index.{keys_in}
use Rattle.session_files.specs.PathIndex.{bare}
use Rattle.session_files.proofs.packages.put_paths.Given as goal

-- The keys so far, and those of the packages to come.
abbrev pub invariant-loop-number : goal.invariant-loop-number
invariant-loop-number l =
    map key_of l.keys.items ++ keys_in l.file l.number (drop l.number (map bare l.image.packages))
    ≡ map key_of l.fn.keys.items ++ keys_in l.file 0 (map bare l.image.packages)
