-- What the parts of the reader and the writer do.
use Rattle.std.specs.Prelude.{◌≡◌, ℕ, List, ◌++◌, Bool, true, Option, Some, None}
use Rattle.std.specs.Borrow.{Bor}
use Rattle.position_codec.specs.declared.reading.Step.{Step}
use Rattle.wire_bytes.specs.Uvarint.{Uvarint}
use Rattle.wire_bytes.specs.Varint.{Varint}
use Rattle.wire_bytes.specs.Text.{Text}
use Rattle.position_codec.specs.Place.{Place, Named, place_at, delta}

-- the place that a step leads to from the one before it
abbrev pub now_by : Place → Option (ℕ × Bor (List ℕ)) → ℕ → ℕ → Named
now_by before None line column = record { place = place_at before.file line column; name = None }
now_by before (Some f) line column = record { place = place_at f.1.now line column; name = Some f.0 }

abbrev pub now_of : Place → Step → Named
now_of before step = now_by before step.file step.line step.column

-- the numbers of a column and a line were written
abbrev pub AppendsBoth : Place → ℕ → ℕ → Bool → List ℕ → List ℕ → Type 0
AppendsBoth before line column more old new = (a b : List ℕ) × Varint a (delta before.column column true)
    × Varint b (delta before.line line more) × (new ≡ old ++ (a ++ b))

-- a place in another file was written, and is the one before the next
pub record NamesFile (strings : List ℕ) (before : Place) (after : Named) (file : List ℕ) (line column : ℕ)
    (old new : List ℕ) : Type 0 where
  pub offset : ℕ
  pub middle : List ℕ
  pub numbers : AppendsBoth before line column true old middle
  pub name : List ℕ
  pub spelled : Uvarint name offset
  pub appended : new ≡ middle ++ name
  pub there : Text strings offset file
  pub moved : after ≡ record { place = place_at file line column; name = Some offset }
