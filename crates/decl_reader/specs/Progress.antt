-- How the reading of one declaration goes on.
use Rattle.std.specs.Prelude.{◌≡◌, ℕ, ◌+◌, List, length}
use Rattle.file_parts.specs.declared.parts.Parts.{Parts}
use Rattle.file_parts.specs.FileParts.{body_of}
use Rattle.type_terms.specs.declared.descriptors.Node.{Node}
use Rattle.decl_spelling.specs.Tables.{Table}
use Rattle.shared_reading.specs.Memory.{Joins}
use Rattle.decl_reader.specs.declared.finished.Descriptor.{Descriptor}
use Rattle.decl_reader.specs.declared.reading.Reading.{Reading}
use Rattle.decl_reader.specs.Blocks.{Entry, table_of, AllInside}
use Rattle.decl_reader.specs.Finished.{known_after, type_at, AreInTurn}
use Rattle.decl_reader.specs.Places.{PlaceEntry, placed_of, AllPlaced, EndsBy, IsStacked, bytes_of}

-- What is remembered can be asked: its nodes are those of the arena, and it has bytes of its own.
pub record IsHeld (nodes : List Node) (memory : List Entry) : Type 0 where
  pub inside : AllInside (length nodes) memory
  pub stacked : IsStacked (table_of nodes memory)

-- The descriptors that were read whole stand where their places say, and have bytes of the data section of their own.
-- They are known with those that are remembered.
pub record IsReady (version limit : ℕ) (memory : Table) (ds : List Descriptor) (entries : List PlaceEntry)
    : Type 0 where
  pub joins : Joins memory (placed_of (type_at version memory ds) entries) (known_after version memory ds)
  pub stacked_own : IsStacked (placed_of (type_at version memory ds) entries)
  pub inside : AllPlaced (length ds) entries
  pub ends : EndsBy limit (known_after version memory ds)
  pub stacked : IsStacked (known_after version memory ds)
  pub turn : AreInTurn version memory ds

-- the steps that were taken are the bytes that the table got
abbrev pub Counts : ℕ → Table → ℕ → Table → Type 0
Counts steps done after more = after + bytes_of done ≡ steps + bytes_of more

-- the descriptors that earlier declarations finished, with the types of their nodes
abbrev pub remembered : {L : Type 0} → Reading L → Table
remembered r = table_of r.arena.now.nodes r.memory.now

-- those and the descriptors that were read whole, with their types
abbrev pub known : {L : Type 0} → Parts → Reading L → Table
known p r = known_after p.version (remembered r) r.finished.items

-- it is ready to be read on from, over the data section of these parts
pub record IsReadyFor {L : Type 0} (p : Parts) (r : Reading L) : Type 0 where
  pub held : IsHeld r.arena.now.nodes r.memory.now
  pub own : IsReady p.version (length (body_of p)) (remembered r) r.finished.items r.places

-- The reading may go on from there: it is ready again, and the steps are the bytes that it got.
pub record GoesOn {L : Type 0} (p : Parts) (old new : Reading L) : Type 0 where
  pub ready : IsReadyFor p new
  pub same_memory : remembered new ≡ remembered old
  pub counted : Counts old.steps.now (known p old) new.steps.now (known p new)
  pub same_steps : new.steps.ghost_name ≡ old.steps.ghost_name
