-- What the calls answer.
use Rattle.std.specs.Prelude.{◌≡◌, ℕ, List, ◌++◌, Result, Ok, Err, nat_eq, if◌then◌else◌}
use Rattle.std.specs.Cmp.Lexicographic.{pointwise}
use Rattle.go_values.specs.declared.positions.Pos.{Pos}
use Rattle.wire_bytes.specs.declared.fault.ByteFault.{ByteFault}
use Rattle.wire_bytes.specs.Reading.{Spot}
use Rattle.wire_bytes.specs.Begins.{Begins, Appends}
use Rattle.wire_bytes.specs.Section.{with_text}
use Rattle.wire_bytes.specs.declared.fault.ReadFault.{ReadFault}
use Rattle.wire_bytes.specs.declared.fault.ReadFault.TheVariants as answers
use Rattle.position_codec.specs.Place.{Place, Named, pos_of, moved_on}
use Rattle.position_codec.specs.Position.{Position}

-- no place is spelled in front, unless it wasn't read for want of memory
abbrev pub SpellsNone : List ℕ → Place → List ℕ → ReadFault → Type 0
SpellsNone strings before bytes (answers.Bytes f) = (now : Named) (rest : List ℕ)
    → Begins (Position strings before) bytes now rest → ⊥
SpellsNone strings before bytes answers.OutOfMemory = Unit {0}

-- a position that was read stands in front, and the place before the next one is the one read
pub record Found (strings : List ℕ) (before after : Named) (old new : Spot) (pos : Pos) : Type 0 where
  pub now : Named
  pub stands : Begins (Position strings before.place) old.left now new.left
  pub position : pos ≡ pos_of now.place
  pub moved : after ≡ moved_on before now

-- what was read, and where the cursor and the place before the next one then are; a refusal leaves both
abbrev pub ReadsPosition : Result Pos ReadFault → Named → Named → Spot → Spot → Result (Named × Spot) ByteFault → Type 0
ReadsPosition (Ok pos) before after old new read = (now : Named) × (read ≡ Ok (now, new)) × (pos ≡ pos_of now.place)
    × (after ≡ moved_on before now)
ReadsPosition (Err (answers.Bytes f)) before after old new read = (read ≡ Err f) × (after ≡ before) × (new ≡ old)
ReadsPosition (Err answers.OutOfMemory) before after old new read = (after ≡ before) × (new ≡ old)

-- A place was written behind what stood there, and is the one before the next.
pub record Wrote (strings : List ℕ) (before after : Named) (old new : List ℕ) (place : Place) : Type 0 where
  pub now : Named
  pub spelled : Appends (Position strings before.place) old now new
  pub its_place : now.place ≡ place
  pub moved : after ≡ moved_on before now

-- more may stand behind what stood there
abbrev pub IsMore : List ℕ → List ℕ → Type 0
IsMore old new = (more : List ℕ) × (new ≡ old ++ more)

-- the texts of the section once a place is written: its file is among them, if it is another one
abbrev pub with_file : List (List ℕ) → Place → Place → List (List ℕ)
with_file texts before now = if pointwise nat_eq before.file now.file then texts else with_text texts now.file
