-- Reading a declaration of an open file of which some descriptors are remembered.
use Rattle.std.specs.Prelude.{ℕ, length, Result, Ok, Err}
use Rattle.wire_bytes.specs.declared.fault.ByteFault.{ByteFault}
use Rattle.wire_bytes.specs.Reading.{◌>>=◌}
use Rattle.type_terms.specs.Declarations.{Decl}
use Rattle.decl_spelling.specs.Sections.{Sections, Basics, window}
use Rattle.decl_spelling.specs.Reading.{start}
use Rattle.decl_spelling.specs.Tables.{Table}
use Rattle.decl_spelling.specs.Declarations.{head_at, resolved, after_head, Read, decl_of, decl_at}

-- as it is read by itself, but that these descriptors are finished
unfoldable pub read_with : Sections → Basics → Table → ℕ → Result Read ByteFault
read_with src basics memory offset = do
  head ← resolved src offset (head_at src (start (window src offset (length src.body)))) memory
  after_head src basics offset (head.0).0 (head.0).1 head.1

-- A fault may come of what is remembered and is no part of the declaration, so it is read by itself then.
abbrev pub or_alone : Sections → Basics → ℕ → Result Read ByteFault → Result Decl ByteFault
or_alone src basics offset (Ok read) = Ok (decl_of src read)
or_alone src basics offset (Err fault) = decl_at src basics offset

-- the declaration, or the first fault
abbrev pub shared_at : Sections → Basics → Table → ℕ → Result Decl ByteFault
shared_at src basics memory offset = or_alone src basics offset (read_with src basics memory offset)

abbrev pub or_same : Table → Result Read ByteFault → Table
or_same memory (Ok read) = read.table
or_same memory (Err fault) = memory

-- what is remembered then
abbrev pub widened : Sections → Basics → Table → ℕ → Table
widened src basics memory offset = or_same memory (read_with src basics memory offset)
