-- What a reader of declarations is given of a file.
use Rattle.std.specs.Prelude.{ℕ, ◌+◌, ◌-◌, ◌<◌, List, take, drop, Option}
use Rattle.std.specs.List.{AllByRecursion}
use Rattle.code_tables.specs.declared.predeclared.Basic.{Basic}
use Rattle.wire_bytes.specs.Reading.{Spot}

-- The two sections, where the data section begins in the file, the format version, the path of the file's own package,
-- which is empty in a bundle, and the paths of the index, as they are spelled there.
pub record Sections : Type 0 where
  pub strings : List ℕ
  pub body : List ℕ
  pub body_at : ℕ
  pub version : ℕ
  pub own : List ℕ
  pub paths : List (List ℕ)

-- the sections are bytes
abbrev pub HoldsBytes : Sections → Type 0
HoldsBytes src = AllByRecursion (λ b. b < 256) src.strings × AllByRecursion (λ b. b < 256) src.body

-- the predeclared type to which the name of a defined type or an alias comes down: a package's path, and a name
abbrev pub Basics : Type 0
Basics = List ℕ → List ℕ → Option Basic

-- the bytes of the data section from one offset up to another
abbrev pub window : Sections → ℕ → ℕ → Spot
window src from to = record { end = src.body_at + to; left = take (to - from) (drop from src.body) }
