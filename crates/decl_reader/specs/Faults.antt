-- What an error says.
use Rattle.wire_bytes.specs.declared.fault.ReadFault.{ReadFault}
use Rattle.wire_bytes.specs.declared.fault.ReadFault.TheVariants as reading
use Rattle.type_terms.specs.declared.shared_nodes.ArenaError.{ArenaError}
use Rattle.type_terms.specs.declared.shared_nodes.ArenaError.TheVariants as arena
use Rattle.decl_reader.specs.declared.fault.DeclFault.{DeclFault}
use Rattle.decl_reader.specs.declared.fault.DeclFault.TheVariants.{Bytes, Nodes, OutOfMemory}

abbrev pub of_read : ReadFault → DeclFault
of_read (reading.Bytes f) = Bytes f
of_read reading.OutOfMemory = OutOfMemory

abbrev pub of_arena : ArenaError → DeclFault
of_arena arena.Full = Nodes
of_arena arena.OutOfMemory = OutOfMemory

-- it says nothing of the bytes
abbrev pub IsNoFault : DeclFault → Type 0
IsNoFault (Bytes f) = ⊥
IsNoFault Nodes = Unit {0}
IsNoFault OutOfMemory = Unit {0}
