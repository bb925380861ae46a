-- What stops a reader stops those that go on with what it reads.
use Rattle.std.proofs.Common.{Result, ap}
use Rattle.wire_bytes.specs.declared.fault.ReadFault.{ReadFault}
use Rattle.wire_bytes.specs.declared.fault.ReadFault.TheVariants.{Bytes, OutOfMemory}
use Rattle.wire_bytes.specs.Reading.{◌>>=◌}
use Rattle.decl_spelling.specs.Reading.{Ahead, Stopped}
use Rattle.block_reader.specs.Calls.{Stops}

pub stops_then : {X Y : Type 0} (e : ReadFault) (new : Ahead) (read : Result X Stopped) (f : X → Result Y Stopped) → Stops e new read → Stops e new (read >>= f)
stops_then (Bytes fault) new read f stops = ap (λ r. r >>= f) stops
stops_then OutOfMemory new read f stops = tt
