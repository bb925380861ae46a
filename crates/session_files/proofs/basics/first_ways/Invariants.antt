use Rattle.std.proofs.Common.{◌≡◌, ℕ, length, Some, slice_get}
use Rattle.session_files.specs.OpenSessions.{all_opened}
use Rattle.session_files.specs.Index.{Spot}
use Rattle.session_files.specs.Ways.{IsFirstWay}
use Rattle.session_files.specs.declared.basics.Way.{Way}
use Rattle.session_files.proofs.basics.first_ways.Given as goal

abbrev pub invariant-loop-at : goal.invariant-loop-at
invariant-loop-at l =
    (length l.ways.items ≡ l.at-index)
    × ((i : ℕ) (way : Way) (at : Spot) → slice_get l.ways.items i ≡ Some way → slice_get l.index i ≡ Some at → IsFirstWay (all_opened l.files) l.index at way)
