-- Reading a full file from left to right, and the first breach of its form.
use Rattle.std.specs.Prelude.{◌≡◌, ℕ, ◌==◌, ◌||◌, not, List, length, Option, Some, None, Result, Ok, Err, nat_lt}
use Rattle.std.specs.Cmp.Lexicographic.{slice_cmp, pointwise}
use Rattle.std.specs.Ordering.{nat_cmp, is_lt}
use Rattle.std.specs.Prelude.{nat_eq}
use Rattle.wire_bytes.specs.declared.fault.ByteFault.{ByteFault}
use Rattle.wire_bytes.specs.declared.fault.ByteFault.TheVariants as faults
use Rattle.wire_bytes.specs.Reading.{Spot, place, ◌>>=◌, demand, or_fault, byte_at, bytes_at, many}
use Rattle.wire_bytes.specs.Uvarint.{uvarint_at}
use Rattle.wire_bytes.specs.Text.{text_in}
use Rattle.name_index.specs.FullFile.{Section, content, Entry, Package, FullFile, named}
use Rattle.wire_bytes.specs.Order.{rises}

-- the offset of a text in the string section, and the text there
unfoldable pub text_offset_at : List ℕ → Spot → Result ((ℕ × List ℕ) × Spot) ByteFault
text_offset_at strings s = do
  offset ← uvarint_at s
  text ← or_fault (faults.Range (place s) offset.0) (text_in strings offset.0)
  Ok ((offset.0, text), offset.1)

-- a name above the one before it, and its offset
unfoldable pub entry_at : List ℕ → ℕ → Option (List ℕ) → Spot → Result (Entry × Spot) ByteFault
entry_at strings size last s = do
  name ← text_offset_at strings s
  rising ← demand (rises last name.0.1) (faults.Order (place s))
  offset ← uvarint_at name.1
  inside ← demand (nat_lt offset.0 size) (faults.Range (place name.1) offset.0)
  Ok (record { name = name.0.1; offset = offset.0 }, offset.1)

abbrev pub entries_at : List ℕ → ℕ → ℕ → Spot → Result (List Entry × Spot) ByteFault
entries_at strings size n = many (entry_at strings size) (λ e. Some e.name) n None

-- The first path is empty. A later one is above the one before it, and isn't the file's own.
abbrev pub path_rule : List ℕ → Option (List ℕ) → ℕ → ℕ → List ℕ → Result (Unit {0}) ByteFault
path_rule own None at offset text = demand (length text == 0) (faults.Range at offset)
path_rule own (Some last) at offset text = do
  rising ← demand (is_lt (slice_cmp nat_cmp last text)) (faults.Order at)
  demand (not (pointwise nat_eq text own)) (faults.Range at offset)

unfoldable pub package_at : List ℕ → List ℕ → ℕ → Option (List ℕ) → Spot → Result (Package × Spot) ByteFault
package_at own strings size last s = do
  path ← text_offset_at strings s
  fine ← path_rule own last (place s) path.0.0 path.0.1
  name ← text_offset_at strings path.1
  height ← uvarint_at name.1
  count ← uvarint_at height.1
  entries ← entries_at strings size count.0 count.1
  Ok (record { path = path.0.1; name = name.0.1; entries = entries.0 }, entries.1)

abbrev pub packages_at : List ℕ → List ℕ → ℕ → ℕ → Spot → Result (List Package × Spot) ByteFault
packages_at own strings size n = many (package_at own strings size) (λ p. Some p.path) n None

-- what stands before the sections
pub record Header : Type 0 where
  pub version : ℕ
  pub strings : ℕ
  pub body : ℕ

unfoldable pub header_at : Spot → Result (Header × Spot) ByteFault
header_at s = do
  letter ← byte_at s
  full ← demand (letter.0 == 105) (faults.Tag (place s) letter.0)
  version ← uvarint_at letter.1
  known ← demand ((version.0 == 1) || (version.0 == 2)) (faults.Version version.0)
  strings ← uvarint_at version.1
  body ← uvarint_at strings.1
  Ok (record { version = version.0; strings = strings.0; body = body.0 }, body.1)

-- the packages, of which there is at least one
unfoldable pub index_at : List ℕ → List ℕ → ℕ → Spot → Result (List Package × Spot) ByteFault
index_at own strings size s = do
  count ← uvarint_at s
  some ← demand (nat_lt 0 count.0) (faults.Range (place s) 0)
  packages_at own strings size count.0 count.1

-- a section of this size
abbrev pub section_at : ℕ → Spot → Result (Section × Spot) ByteFault
section_at size s = do
  taken ← bytes_at size s
  Ok (record { at = place s; len = size }, taken.1)

-- the whole file
unfoldable pub full_file_of : List ℕ → List ℕ → Result FullFile ByteFault
full_file_of own bytes = do
  header ← header_at (record { end = length bytes; left = bytes })
  strings ← section_at header.0.strings header.1
  body ← section_at header.0.body strings.1
  packages ← index_at own (content bytes strings.0) body.0.len body.1
  ended ← demand (length packages.1.left == 0) (faults.Trailing (place packages.1))
  Ok (record {
    bytes = bytes;
    version = header.0.version;
    strings = strings.0;
    body = body.0;
    packages = named own packages.0;
  })

-- the first breach of the form, in the order of the parts
abbrev pub FirstBreach : List ℕ → List ℕ → ByteFault → Type 0
FirstBreach own bytes f = full_file_of own bytes ≡ Err f
