-- What a session of files has: its files in the order in which they were taken in.
use Rattle.std.specs.Prelude.{◌≡◌, ℕ, ◌<◌, List, length, map, Some, slice_get}
use Rattle.std.specs.List.{flat_map, AllByRecursion, Contains}
use Rattle.go_values.specs.declared.qualified.QName.{QName}
use Rattle.name_index.specs.FullFile.{FullFile, Listed, listed}
use Rattle.name_index.specs.Lookup.{IsListed}
use Rattle.name_index.specs.Envelope.{Envelope}

-- an open file, and the text by which messages name it
pub record Opened : Type 0 where
  pub label : List ℕ
  pub file : FullFile

-- a file of bytes that has an envelope
abbrev pub IsSound : FullFile → Type 0
IsSound file = (own : List ℕ) × Envelope own file.bytes file × AllByRecursion (λ b. b < 256) file.bytes

abbrev pub AreSound : List Opened → Type 0
AreSound files = AllByRecursion (λ o. IsSound o.file) files

-- a file of the session lists the name: under this number, with its declaration at the offset
abbrev pub ListsAt : Opened → List ℕ → List ℕ → ℕ → ℕ → Type 0
ListsAt o path name number offset = IsListed o.file.packages number path name offset

-- no file lists the name
abbrev pub IsUnknown : List Opened → List ℕ → List ℕ → Type 0
IsUnknown files path name =
    (file number offset : ℕ) (o : Opened) → slice_get files file ≡ Some o → ListsAt o path name number offset → ⊥

-- The name is that of the first file that lists it: the file's number in the session, the name's number in its index,
-- and where its declaration stands there.
pub record StandsIn (files : List Opened) (path name : List ℕ) (file number : ℕ) (o : Opened) (offset : ℕ)
    : Type 0 where
  pub there : slice_get files file ≡ Some o
  pub listed : ListsAt o path name number offset
  pub first : (earlier k at : ℕ) (other : Opened) → earlier < file → slice_get files earlier ≡ Some other
      → ListsAt other path name k at → ⊥

abbrev pub Stands : List Opened → List ℕ → List ℕ → ℕ → ℕ → Type 0
Stands files path name file number = (o : Opened) × (offset : ℕ) × StandsIn files path name file number o offset

-- ---- all names

abbrev pub qualified : Listed → QName
qualified l = record { path = l.path; name = l.name }

-- the names of all files in order, each as often as a file lists it
abbrev pub all_listed : List Opened → List Listed
all_listed files = flat_map (λ o. listed o.file.packages) files

abbrev pub all_names : List Opened → List QName
all_names files = map qualified (all_listed files)

-- the same names, each once
pub record AreDistinct (names each : List QName) : Type 0 where
  pub once : (i j : ℕ) (q : QName) → slice_get each i ≡ Some q → slice_get each j ≡ Some q → i ≡ j
  pub from : (q : QName) → Contains each q → Contains names q
  pub all : (q : QName) → Contains names q → Contains each q

-- how many distinct names there are
abbrev pub IsNameCount : List Opened → ℕ → Type 0
IsNameCount files count = (each : List QName) × AreDistinct (all_names files) each × (length each ≡ count)
