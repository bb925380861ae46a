-- What a reader of an open file remembers.
use Rattle.std.specs.Prelude.{List}
use Rattle.type_terms.specs.declared.descriptors.Node.{Node}
use Rattle.decl_spelling.specs.Sections.{Sections}
use Rattle.decl_spelling.specs.Tables as of_trees
use Rattle.decl_reader.specs.declared.open_reader.OpenReader.{OpenReader}
use Rattle.decl_reader.specs.Blocks.{Entry, table_of}
use Rattle.decl_reader.specs.Kept.{IsKept}

-- the descriptors by their offsets, with their nodes
abbrev pub entries_of : OpenReader → List Entry
entries_of reader = reader.table

-- with the types that the nodes of an arena denote
abbrev pub memory_of : List Node → OpenReader → of_trees.Table
memory_of nodes reader = table_of nodes (entries_of reader)

-- It remembers descriptors of this file alone, with nodes of the arena.
abbrev pub Remembers : Sections → List Node → OpenReader → Type 0
Remembers src nodes reader = IsKept src nodes (entries_of reader)
