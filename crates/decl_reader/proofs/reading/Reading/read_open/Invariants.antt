use Rattle.std.proofs.Common.{length}
use Rattle.std.specs.Prelude.{reverse}
use Rattle.block_reader.specs.Calls.{sections_of}
use Rattle.decl_reader.specs.Progress.{known, GoesOn}
use Rattle.decl_reader.proofs.DescentLoop.{Running, all_weight}
use Rattle.decl_reader.proofs.reading.Reading.read_open.Given as goal

abbrev pub invariant-loop-current : goal.invariant-loop-current
invariant-loop-current g l =
    Running (sections_of l.parts) l.fn.first (known l.parts l.fn.self) (known l.parts l.self) l.current (reverse l.holders.items) × GoesOn l.parts l.fn.self l.self

abbrev pub decreases-loop-current : goal.decreases-loop-current
decreases-loop-current g l = all_weight (length (sections_of l.parts).body) l.current (reverse l.holders.items)
