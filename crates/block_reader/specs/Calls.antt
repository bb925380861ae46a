-- What the calls of a reader answer.
use Rattle.std.specs.Prelude.{◌≡◌, Result, Ok, Err}
use Rattle.wire_bytes.specs.declared.fault.ReadFault.{ReadFault}
use Rattle.wire_bytes.specs.declared.fault.ReadFault.TheVariants.{Bytes, OutOfMemory}
use Rattle.file_parts.specs.declared.parts.Parts.{Parts}
use Rattle.file_parts.specs.FileParts.{strings_of, body_of, paths_of}
use Rattle.decl_spelling.specs.Sections.{Sections}
use Rattle.decl_spelling.specs.Reading.{Ahead, Reader, Stopped}
use Rattle.block_reader.specs.declared.block.Block.{Block}

abbrev pub sections_of : Parts → Sections
sections_of p =
    record {
      strings = strings_of p;
      body = body_of p;
      body_at = p.body_at;
      version = p.version;
      own = p.own.now;
      paths = paths_of p;
    }

abbrev pub ahead_of : Block → Ahead
ahead_of b = record { spot = b.cursor; before = b.before; mentions = b.mentions.items }

-- An error that names a fault says what reading stops at, and the types that were named before; want of memory says
-- nothing.
abbrev pub Stops : {Y : Type 0} → ReadFault → Ahead → Result Y Stopped → Type 0
Stops (Bytes f) new read = read ≡ Err (record { fault = f; mentions = new.mentions })
Stops OutOfMemory new read = Unit {0}

-- what was read from a block, seen by view, and the block as it is then are what reading gives
abbrev pub ReadsBlock : {X Y : Type 0} → (X → Y) → Reader Y → Block → Result X ReadFault → Block → Type 0
ReadsBlock view read old (Ok x) new = read (ahead_of old) ≡ Ok (view x, ahead_of new)
ReadsBlock view read old (Err e) new = Stops e (ahead_of new) (read (ahead_of old))
