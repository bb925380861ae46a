use Rattle.std.proofs.Common.{◌≡◌, ℕ, ◌<◌, slice_get, Some}
use Rattle.front_cases.proofs.fitting.all_below.Given as goal

abbrev pub invariant-loop-number : goal.invariant-loop-number
invariant-loop-number l = (k v : ℕ) → k < l.number-index → slice_get l.numbers k ≡ Some v → v < l.bound
