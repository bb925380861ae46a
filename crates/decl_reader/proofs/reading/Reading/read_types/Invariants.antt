use Rattle.block_reader.specs.Calls.{sections_of}
use Rattle.decl_reader.specs.Progress.{known, GoesOn}
use Rattle.decl_reader.proofs.DescentLoop.{Reading}
use Rattle.decl_reader.proofs.reading.Reading.read_types.Given as goal

abbrev pub invariant-loop-mention : goal.invariant-loop-mention
invariant-loop-mention g l =
    Reading (sections_of l.parts) l.holder l.mentions (known l.parts l.fn.self) (known l.parts l.self) l.mention-index × GoesOn l.parts l.fn.self l.self
