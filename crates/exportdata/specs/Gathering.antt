-- What a sink of this process tells.
use Rattle.std.specs.Prelude.{ℕ, None}
use Rattle.outside.specs.Sinks.{SinkState}

-- its faults, and nothing of what was written
abbrev pub untold : ℕ → SinkState
untold faults = record { written = None; faults = faults }
