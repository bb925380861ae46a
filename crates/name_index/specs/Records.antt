-- What the records of an open file stand for.
use Rattle.std.specs.Prelude.{◌≡◌, ℕ, ◌+◌, ◌^◌, ◌<◌, ◌≤◌, List, [], ◌∷◌, length, map, Option, Some, None, slice_get}
use Rattle.std.specs.List.{AllByRecursion}
use Rattle.wire_bytes.specs.declared.fault.ByteFault.{ByteFault}
use Rattle.wire_bytes.specs.declared.fault.ReadFault.{ReadFault}
use Rattle.wire_bytes.specs.declared.fault.ReadFault.TheVariants as errors
use Rattle.file_parts.specs.Paths.{text_of, IsInside, ArePaths}
use Rattle.name_index.specs.declared.limits.TheConstants.{FILE_LIMIT}
use Rattle.name_index.specs.declared.records.EntryRecord.{EntryRecord}
use Rattle.name_index.specs.declared.records.PackageRecord.{PackageRecord}
use Rattle.name_index.specs.declared.full.header.HeaderRecord.{HeaderRecord}
use Rattle.name_index.specs.declared.records.SectionRecord.{SectionRecord}
use Rattle.name_index.specs.declared.records.Layout.{Layout}
use Rattle.name_index.specs.FullFile.{Section, content, Entry, Package, FullFile, named}
use Rattle.name_index.specs.Envelope.{Envelope}
use Rattle.name_index.specs.FirstBreach.{Header}
use Rattle.name_index.specs.Lookup.{IsSorted}

abbrev pub entry_of : List ℕ → EntryRecord → Entry
entry_of strings e = record { name = text_of strings e.name; offset = e.offset }

abbrev pub package_of : List ℕ → PackageRecord → Package
package_of strings p = record
    { path = text_of strings p.path; name = text_of strings p.name; entries = map (entry_of strings) p.entries.items }

-- all its texts stand inside the string section
abbrev pub IsPackageInside : List ℕ → PackageRecord → Type 0
IsPackageInside strings p = IsInside strings p.path × IsInside strings p.name
    × AllByRecursion (λ e. IsInside strings e.name) p.entries.items

-- how many names packages list
abbrev pub name_count : List PackageRecord → ℕ
name_count [] = 0
name_count (p ∷ ps) = length p.entries.items + name_count ps

-- each package knows how many names are listed before it
abbrev pub IsNumbered : ℕ → List PackageRecord → Type 0
IsNumbered n [] = Unit {0}
IsNumbered n (p ∷ ps) = (p.first ≡ n) × IsNumbered (n + length p.entries.items) ps

-- the fault of the bytes that an error names
abbrev pub fault_of : ReadFault → Option ByteFault
fault_of (errors.Bytes f) = Some f
fault_of errors.OutOfMemory = None

abbrev pub header_of : HeaderRecord → Header
header_of h = record { version = h.version; strings = h.strings; body = h.body }

abbrev pub section_of : SectionRecord → Section
section_of s = record { at = s.at; len = s.len }

-- the packages that the records of a file of the path own stand for
abbrev pub packages_of : List ℕ → List ℕ → List PackageRecord → List Package
packages_of own strings rs = named own (map (package_of strings) rs)

-- their paths
abbrev pub paths_of : List ℕ → List ℕ → List PackageRecord → List (List ℕ)
paths_of own strings rs = map (λ p. p.path) (packages_of own strings rs)

abbrev pub file_of : List ℕ → List ℕ → Layout → FullFile
file_of own bytes l = record {
  bytes = bytes;
  version = l.version;
  strings = section_of l.strings;
  body = section_of l.body;
  packages = packages_of own (content bytes (section_of l.strings)) l.packages.items;
}

-- The sections lie inside the file and the texts inside the string section. The paths stand apart as well, and the
-- names are numbered.
pub record IsLayout (bytes : List ℕ) (l : Layout) : Type 0 where
  pub strings_inside : l.strings.at + l.strings.len ≤ length bytes
  pub body_inside : l.body.at + l.body.len ≤ length bytes
  pub texts_inside : AllByRecursion (IsPackageInside (content bytes (section_of l.strings))) l.packages.items
  pub paths : l.paths.items ≡ map (λ p. p.path) l.packages.items
  pub numbered : IsNumbered 0 l.packages.items
  pub few : length l.packages.items < 2 ^ 32
  pub few_names : name_count l.packages.items < 2 ^ 32

-- the paths of the index, as the file spells them
abbrev pub spelled_paths : List ℕ → Layout → List (List ℕ)
spelled_paths bytes l = map (text_of (content bytes (section_of l.strings))) l.paths.items

-- an open file: what was found in it is the envelope of its bytes
pub record IsOpen (own bytes : List ℕ) (l : Layout) : Type 0 where
  pub short : length bytes ≤ FILE_LIMIT
  pub layout : IsLayout bytes l
  pub paths : ArePaths own (spelled_paths bytes l)
  pub envelope : Envelope own bytes (file_of own bytes l)

-- records in which names are searched for
pub record IsSearchable (own strings : List ℕ) (rs : List PackageRecord) : Type 0 where
  pub inside : AllByRecursion (IsPackageInside strings) rs
  pub numbered : IsNumbered 0 rs
  pub few : length rs < 2 ^ 32
  pub few_names : name_count rs < 2 ^ 32
  pub sorted : IsSorted own (packages_of own strings rs)

-- package j is the last one before which at most k names are listed
pub record IsHolder (rs : List PackageRecord) (k j : ℕ) : Type 0 where
  pub within : j < length rs
  pub begins : (r : PackageRecord) → slice_get rs j ≡ Some r → r.first ≤ k
  pub last : (i : ℕ) (r : PackageRecord) → j < i → slice_get rs i ≡ Some r → k < r.first
