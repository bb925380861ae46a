use Rattle.std.proofs.Common.{take}
use Rattle.asked_names.specs.Counting.{declared_of, IsEach}
use Rattle.asked_names.proofs.counting.distinct_declared.Given as goal

-- those before the place that are declared were noted
abbrev pub invariant-loop-place : goal.invariant-loop-place
invariant-loop-place l = IsEach (declared_of (take l.place l.names) (take l.place l.found)) l.distinct.keys
