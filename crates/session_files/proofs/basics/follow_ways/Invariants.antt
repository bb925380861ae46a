use Rattle.std.proofs.Common.{◌≡◌, ◌≤◌, ◌-◌, ℕ, length, Option}
use Rattle.code_tables.specs.declared.predeclared.Basic.{Basic}
use Rattle.session_files.specs.Ways.{AreWays}
use Rattle.session_files.proofs.basics.follow_ways.Given as goal

abbrev pub invariant-loop-reach : goal.invariant-loop-reach
invariant-loop-reach l =
    (length l.ways ≡ length l.fn.ways) × (1 ≤ l.reach)
    × ((within : ℕ → ℕ → Option Basic) (limit : ℕ) → AreWays within limit 1 l.fn.ways → AreWays within limit l.reach l.ways)

abbrev pub decreases-loop-reach : goal.decreases-loop-reach
decreases-loop-reach l = l.count - l.reach
