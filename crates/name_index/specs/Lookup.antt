-- What is asked of an index.
use Rattle.std.specs.Prelude.{◌≡◌, ◌≢◌, ℕ, List, [], ◌∷◌, length, map, Option, Some, option_map, unwrap_or, slice_get}
use Rattle.std.specs.Option.{option_and_then}
use Rattle.std.specs.List.{AllByRecursion}
use Rattle.name_index.specs.FullFile.{Package, Listed, listed}
use Rattle.wire_bytes.specs.Order.{Rise}

-- the path and the name of package k
abbrev pub heading_at : List Package → ℕ → Option (List ℕ × List ℕ)
heading_at ps k = option_map (λ p. (p.path, p.name)) (slice_get ps k)

-- how many names package k lists, none if there is no such package
abbrev pub names_at : List Package → ℕ → ℕ
names_at ps k = unwrap_or (option_map (λ p. length p.entries) (slice_get ps k)) 0

-- a name of a package by its place there, and its offset
abbrev pub name_at : List Package → ℕ → ℕ → Option (List ℕ × ℕ)
name_at ps k i = option_and_then (λ p. option_map (λ e. (e.name, e.offset)) (slice_get p.entries i)) (slice_get ps k)

-- a name, as it is listed
abbrev pub as_listed : List ℕ → List ℕ → ℕ → Listed
as_listed path name offset = record { path = path; name = name; offset = offset }

-- Number k of all names of the index is this name of this path, whose declaration stands at the offset.
abbrev pub IsListed : List Package → ℕ → List ℕ → List ℕ → ℕ → Type 0
IsListed ps k path name offset = slice_get (listed ps) k ≡ Some (as_listed path name offset)

-- ---- what a search by halves rests on

-- The first path is the file's own. The others rise, and none is the file's own.
abbrev pub OwnFirst : List ℕ → List (List ℕ) → Type 0
OwnFirst own [] = ⊥
OwnFirst own (first ∷ others) = (first ≡ own) × Rise others × AllByRecursion (λ t. t ≢ own) others

-- an index in order: its paths, and the names of each package
pub record IsSorted (own : List ℕ) (ps : List Package) : Type 0 where
  pub paths : OwnFirst own (map (λ p. p.path) ps)
  pub names : AllByRecursion (λ p. Rise (map (λ e. e.name) p.entries)) ps
