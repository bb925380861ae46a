-- The parts of a full file, apart from how they are read.
use Rattle.std.specs.Prelude.{◌≡◌, ℕ, ◌+◌, ◌<◌, ◌≤◌, ◌⊎◌, List, [], ◌∷◌, length, drop, map}
use Rattle.wire_bytes.specs.Reading.{InOrder}
use Rattle.wire_bytes.specs.Uvarint.{BeginsWith}
use Rattle.wire_bytes.specs.Text.{Text}
use Rattle.name_index.specs.FullFile.{content, Entry, Package, FullFile, named}
use Rattle.wire_bytes.specs.Order.{Rise}
use Rattle.file_parts.specs.Paths.{ArePaths}

-- the offset of a text in the string section
abbrev pub TextOffset : List ℕ → List ℕ → List ℕ → List ℕ → Type 0
TextOffset strings bytes text rest = (offset : ℕ) × BeginsWith bytes offset rest × Text strings offset text

-- a name, and an offset in the data section, which has this size
abbrev pub IsEntry : List ℕ → ℕ → List ℕ → Entry → List ℕ → Type 0
IsEntry strings size bytes e rest = (next : List ℕ) × TextOffset strings bytes e.name next
    × BeginsWith next e.offset rest × (e.offset < size)

-- path, name, a height of any value, and the count of the names and the names, which rise
pub record IsPackage (strings : List ℕ) (size : ℕ) (bytes : List ℕ) (p : Package) (rest : List ℕ) : Type 0 where
  pub at_name : List ℕ
  pub at_height : List ℕ
  pub at_count : List ℕ
  pub at_entries : List ℕ
  pub height : ℕ
  pub path : TextOffset strings bytes p.path at_name
  pub name : TextOffset strings at_name p.name at_height
  pub any_height : BeginsWith at_height height at_count
  pub count : BeginsWith at_count (length p.entries) at_entries
  pub entries : InOrder (IsEntry strings size) at_entries p.entries rest
  pub names_rise : Rise (map (λ e. e.name) p.entries)

-- A full file of the path own, in the order of its parts: the letter i, the format version, the sizes of the two
-- sections, the string section, the data section, the number of packages and the packages, and nothing after them.
pub record Envelope (own bytes : List ℕ) (file : FullFile) : Type 0 where
  pub at_version : List ℕ
  pub at_strings_size : List ℕ
  pub at_body_size : List ℕ
  pub at_sections : List ℕ
  pub at_packages : List ℕ
  pub spelled : List Package
  pub whole : file.bytes ≡ bytes
  pub letter : bytes ≡ 105 ∷ at_version
  pub version : BeginsWith at_version file.version at_strings_size
  pub known : (file.version ≡ 1) ⊎ (file.version ≡ 2)
  pub strings_size : BeginsWith at_strings_size file.strings.len at_body_size
  pub body_size : BeginsWith at_body_size file.body.len at_sections
  pub strings_at : file.strings.at + length at_sections ≡ length bytes
  pub body_at : file.body.at ≡ file.strings.at + file.strings.len
  pub inside : file.body.at + file.body.len ≤ length bytes
  pub count : BeginsWith (drop (file.body.at + file.body.len) bytes) (length spelled) at_packages
  pub packages : InOrder (IsPackage (content bytes file.strings) file.body.len) at_packages spelled []
  pub paths : ArePaths own (map (λ p. p.path) spelled)
  pub resolved : file.packages ≡ named own spelled
