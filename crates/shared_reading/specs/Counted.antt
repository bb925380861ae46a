-- The steps of reading with a memory: the bytes that are read for the first time.
use Rattle.std.specs.Prelude.{◌≡◌, ℕ, ◌+◌, ◌-◌, ◌≤◌, ◌⊎◌, List, [], ◌∷◌, map, Result, Ok}
use Rattle.std.specs.List.{AllByRecursion, Contains, sum_by}
use Rattle.wire_bytes.specs.declared.fault.ByteFault.{ByteFault}
use Rattle.wire_bytes.specs.Reading.{◌>>=◌}
use Rattle.decl_spelling.specs.Sections.{Sections, Basics}
use Rattle.decl_spelling.specs.Tables.{Table}
use Rattle.decl_spelling.specs.Declarations.{Read, read_at}
use Rattle.decl_spelling.specs.Spelling.{Block}
use Rattle.shared_reading.specs.Memory.{blocks_in, Overlaps}
use Rattle.shared_reading.specs.WithMemory.{read_with}

-- bytes of the data section, from one offset up to another
pub record Stretch : Type 0 where
  pub start : ℕ
  pub end : ℕ

abbrev pub byte_count : Stretch → ℕ
byte_count stretch = stretch.end - stretch.start

abbrev pub Away : Stretch → Stretch → Type 0
Away a b = (a.end ≤ b.start) ⊎ (b.end ≤ a.start)

abbrev pub stretch_of : Block → Stretch
stretch_of block = record { start = block.start; end = block.end }

-- all descriptors of a table
abbrev pub bytes_in : Table → ℕ
bytes_in table = sum_by (λ block. byte_count (stretch_of block)) (blocks_in table)

-- a declaration that was read at an offset, without its descriptors
abbrev pub own_stretch : Sections → ℕ × Read → Stretch
own_stretch src decl = record { start = decl.0; end = decl.1.end - src.body_at }

-- the descriptors that weren't remembered, and the declaration itself
abbrev pub steps_of : Sections → Table → ℕ → Read → ℕ
steps_of src memory offset read = (bytes_in read.table - bytes_in memory) + byte_count (own_stretch src (offset, read))

-- Declarations are read one after the other, each with all that those before it finished: what is remembered in the
-- end, and all the steps.
abbrev pub read_in_turn : Sections → Basics → Table → List ℕ → Result (Table × ℕ) ByteFault
read_in_turn src basics memory [] = Ok (memory, 0)
read_in_turn src basics memory (offset ∷ offsets) = do
  read ← read_with src basics memory offset
  others ← read_in_turn src basics read.table offsets
  Ok (others.0, steps_of src memory offset read + others.1)

-- each is away from all that stand behind it in the list
abbrev pub AllAway : List Stretch → Type 0
AllAway [] = Unit {0}
AllAway (stretch ∷ rest) = AllByRecursion (Away stretch) rest × AllAway rest

-- Declarations of a file, by their offsets, with what each is read as by itself. A descriptor of one and a descriptor
-- of another are the same or share no byte, and no declaration shares a byte with another or with a descriptor.
pub record LieApart (src : Sections) (basics : Basics) (decls : List (ℕ × Read)) : Type 0 where
  pub are_read : AllByRecursion (λ decl. read_at src basics decl.0 ≡ Ok decl.1) decls
  pub descriptors : (a b : ℕ × Read) → Contains decls a → Contains decls b → Overlaps a.1.table b.1.table → ⊥
  pub declarations : AllAway (map (own_stretch src) decls)
  pub both : (a b : ℕ × Read) → Contains decls a → Contains decls b → (block : Block)
      → Contains (blocks_in b.1.table) block → Away (own_stretch src a) (stretch_of block)
