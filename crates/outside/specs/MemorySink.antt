-- A sink in memory.
use Rattle.std.specs.Prelude.{ℕ, ◌-◌, Bool, ◌&&◌, nat_le, ◌==◌, if◌then◌else◌, min, List, ◌++◌, length, take, find}
use Rattle.std.specs.Prelude.{Option, is_none, unwrap_or}
use Rattle.std.specs.Option.{option_map}
use Rattle.outside.specs.Counts.{one_more}

-- what was written, the room that is left, the puts that fail by their numbers from 0, each with the
-- number of bytes that it still writes, how many puts there were, and how many faults
pub record Tray : Type 0 where
  pub written : List ℕ
  pub room : ℕ
  pub failing : List (ℕ × ℕ)
  pub puts : ℕ
  pub faults : ℕ

-- how many bytes the next put still writes before it fails, where it is one that fails: the first pair of its
-- number counts
abbrev pub planned : Tray → Option ℕ
planned tray = option_map (λ p. p.1) (find (λ p. p.0 == tray.puts) tray.failing)

-- the piece goes whole: the next put isn't one that fails, and there is room
abbrev pub goes_whole : Tray → List ℕ → Bool
goes_whole tray piece = is_none (planned tray) && nat_le (length piece) tray.room

-- how many bytes of the piece are written
abbrev pub taken : Tray → List ℕ → ℕ
taken tray piece = min (min (unwrap_or (planned tray) (length piece)) (length piece)) tray.room

-- with these bytes added, for which there is room
abbrev pub added : Tray → List ℕ → Tray
added tray bytes = record tray { written = tray.written ++ bytes; room = tray.room - length bytes }

-- after a put
abbrev pub after_put : Tray → List ℕ → Tray
after_put tray piece = record (added tray (take (taken tray piece) piece)) {
  puts = one_more tray.puts;
  faults = if goes_whole tray piece then tray.faults else one_more tray.faults;
}
