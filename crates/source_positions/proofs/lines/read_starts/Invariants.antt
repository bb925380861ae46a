use Rattle.std.proofs.Common.{◌≡◌, ◌++◌, ◌-◌, drop}
use Rattle.source_positions.specs.Lines.{starts_in, line_starts}
use Rattle.source_positions.proofs.lines.read_starts.Given as goal

abbrev pub invariant-loop-at : goal.invariant-loop-at
invariant-loop-at l = l.starts.items ++ starts_in (l.at - 1) (drop (l.at - 1) l.source) ≡ line_starts l.source
