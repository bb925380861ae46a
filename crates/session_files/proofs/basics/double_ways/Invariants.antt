use Rattle.std.proofs.Common.{◌≡◌, ℕ, length, Option}
use Rattle.code_tables.specs.declared.predeclared.Basic.{Basic}
use Rattle.session_files.specs.Ways.{AreWays}
use Rattle.session_files.proofs.WayLemmas.{AreTakenOn}
use Rattle.session_files.proofs.basics.double_ways.Given as goal

abbrev pub invariant-loop-i : goal.invariant-loop-i
invariant-loop-i l =
    (length l.ways ≡ length l.fn.ways)
    × ((within : ℕ → ℕ → Option Basic) (limit reach : ℕ) → AreWays within limit reach l.fn.ways → AreTakenOn within limit reach l.i l.ways)
