-- A place as it is spelled after the one before it in the same block.
use Rattle.std.specs.Prelude.{◌≡◌, ◌≢◌, ℕ, ◌^◌, ◌<◌, ◌==◌, not, ℤ, nat_eq, List, ◌++◌, Bool, true, false, if◌then◌else◌}
use Rattle.std.specs.Prelude.{Some, None, Result, Ok, ◌⊎◌}
use Rattle.std.specs.Cmp.Lexicographic.{pointwise}
use Rattle.wire_bytes.specs.declared.fault.ByteFault.{ByteFault}
use Rattle.wire_bytes.specs.declared.fault.ByteFault.TheVariants as faults
use Rattle.wire_bytes.specs.Reading.{Spot, place, ◌>>=◌, demand, or_fault}
use Rattle.wire_bytes.specs.Uvarint.{Uvarint, uvarint_at}
use Rattle.wire_bytes.specs.Varint.{number_of, Varint, varint_at}
use Rattle.wire_bytes.specs.Text.{Text, text_in}
use Rattle.position_codec.specs.Place.{Place, Named, delta, half, is_odd, moved, place_at}

-- on the same line of the same file: the column's number alone
pub record ColumnAlone (before : Place) (bytes : List ℕ) (now : Named) : Type 0 where
  pub same_file : now.place.file ≡ before.file
  pub same_line : now.place.line ≡ before.line
  pub no_name : now.name ≡ None
  pub column : Varint bytes (delta before.column now.place.column false)

-- on another line of the same file: the column's number and the line's
pub record ColumnAndLine (before : Place) (bytes : List ℕ) (now : Named) : Type 0 where
  pub column_part : List ℕ
  pub line_part : List ℕ
  pub parts : bytes ≡ column_part ++ line_part
  pub same_file : now.place.file ≡ before.file
  pub other_line : now.place.line ≢ before.line
  pub no_name : now.name ≡ None
  pub column : Varint column_part (delta before.column now.place.column true)
  pub line : Varint line_part (delta before.line now.place.line false)

-- in another file: the column's number, the line's, and the offset of the file's name
pub record ColumnLineAndFile (strings : List ℕ) (before : Place) (bytes : List ℕ) (now : Named) : Type 0 where
  pub column_part : List ℕ
  pub line_part : List ℕ
  pub file_part : List ℕ
  pub parts : bytes ≡ column_part ++ (line_part ++ file_part)
  pub other_file : now.place.file ≢ before.file
  pub offset : ℕ
  pub its_name : now.name ≡ Some offset
  pub column : Varint column_part (delta before.column now.place.column true)
  pub line : Varint line_part (delta before.line now.place.line true)
  pub file : Uvarint file_part offset
  pub there : Text strings offset now.place.file

-- the bytes spell the place after the one before it; lines and columns have 32 bits
pub record Position (strings : List ℕ) (before : Place) (bytes : List ℕ) (now : Named) : Type 0 where
  pub line_fits : now.place.line < 2 ^ 32
  pub column_fits : now.place.column < 2 ^ 32
  pub spelled : ColumnAlone before bytes now
      ⊎ (ColumnAndLine before bytes now ⊎ ColumnLineAndFile strings before bytes now)

-- a place whose line and column have 32 bits
abbrev pub IsPlace : Place → Type 0
IsPlace p = (p.line < 2 ^ 32) × (p.column < 2 ^ 32)

-- the place with the offset of its file's name, which is spelled where the file is another one
abbrev pub named_under : ℕ → Place → Place → Named
named_under offset before now = record {
  place = now;
  name = if pointwise nat_eq before.file now.file then None
      else Some offset;
}

-- ---- reading one

-- a signed number, and where it moves a line or column by its half
unfoldable pub moved_at : ℕ → Spot → Result ((ℤ × ℕ) × Spot) ByteFault
moved_at before s = do
  number ← varint_at s
  now ← or_fault (faults.Range (place s) (number_of number.0)) (moved before (half number.0))
  Ok ((number.0, now), number.1)

-- the offset of a file's name, which isn't the one before it
unfoldable pub file_at : List ℕ → List ℕ → Spot → Result ((ℕ × List ℕ) × Spot) ByteFault
file_at strings before s = do
  offset ← uvarint_at s
  file ← or_fault (faults.Range (place s) offset.0) (text_in strings offset.0)
  other ← demand (not (pointwise nat_eq file before)) (faults.Number (place s))
  Ok ((offset.0, file), offset.1)

-- the number of another line, or of the same one in another file, so it isn't 0; and where it moves the line
unfoldable pub line_at : ℕ → Spot → Result ((ℤ × ℕ) × Spot) ByteFault
line_at before s = do
  line ← moved_at before s
  some ← demand (not (number_of line.0.0 == 0)) (faults.Number (place s))
  Ok line

-- what stands behind the line's number: another file, or nothing
abbrev pub behind_line : List ℕ → Place → ℕ → ℕ → Bool → Spot → Result (Named × Spot) ByteFault
behind_line strings before line column false s = Ok
    (record { place = place_at before.file line column; name = None }, s)
behind_line strings before line column true s = do
  file ← file_at strings before.file s
  Ok (record { place = place_at file.0.1 line column; name = Some file.0.0 }, file.1)

-- what stands behind the column's number: another line or file, or nothing
abbrev pub behind_column : List ℕ → Place → ℕ → Bool → Spot → Result (Named × Spot) ByteFault
behind_column strings before column false s = Ok
    (record { place = place_at before.file before.line column; name = None }, s)
behind_column strings before column true s = do
  line ← line_at before.line s
  behind_line strings before line.0.1 column (is_odd line.0.0) line.1

-- the next place; a number is odd where another part follows it
unfoldable pub position_at : List ℕ → Place → Spot → Result (Named × Spot) ByteFault
position_at strings before s = do
  column ← moved_at before.column s
  behind_column strings before column.0.1 (is_odd column.0.0) column.1
