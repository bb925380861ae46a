-- What is remembered of an open file, as the code keeps it.
use Rattle.std.specs.Prelude.{List, length}
use Rattle.type_terms.specs.declared.descriptors.Node.{Node}
use Rattle.decl_spelling.specs.Sections.{Sections}
use Rattle.shared_reading.specs.Memory.{IsMemory}
use Rattle.decl_reader.specs.Blocks.{Entry, table_of}
use Rattle.decl_reader.specs.Places.{EndsBy}
use Rattle.decl_reader.specs.Progress.{IsHeld}

-- A memory of the file, with the types of nodes of an arena, in bytes of the data section of their own.
pub record IsKept (src : Sections) (nodes : List Node) (entries : List Entry) : Type 0 where
  pub memory : IsMemory src (table_of nodes entries)
  pub held : IsHeld nodes entries
  pub ends : EndsBy (length src.body) (table_of nodes entries)
