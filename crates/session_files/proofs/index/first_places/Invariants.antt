use Rattle.std.proofs.Common.{◌≡◌, ◌++◌, map, drop, None}
use Rattle.session_files.specs.OpenSessions.{key_of, last_name}
use Rattle.session_files.specs.Index.{firsts_after, spot_of}
use Rattle.session_files.proofs.index.first_places.Given as goal

-- The places so far, and those of the keys to come.
abbrev pub invariant-loop-key : goal.invariant-loop-key
invariant-loop-key l =
    l.places.items ++ map spot_of (firsts_after (last_name l.last) (map key_of (drop l.key-index l.keys)))
    ≡ map spot_of (firsts_after None (map key_of l.keys))
