-- What a full file gives.
use Rattle.std.specs.Prelude.{ℕ, List, [], ◌∷◌, take, drop, map}
use Rattle.std.specs.List.{flat_map}

-- where a part of a file stands
pub record Section : Type 0 where
  pub at : ℕ
  pub len : ℕ

-- the bytes of a section
abbrev pub content : List ℕ → Section → List ℕ
content bytes s = take s.len (drop s.at bytes)

-- a name of a package, and where its declaration stands in the data section
pub record Entry : Type 0 where
  pub name : List ℕ
  pub offset : ℕ

-- a package, and its names in order
pub record Package : Type 0 where
  pub path : List ℕ
  pub name : List ℕ
  pub entries : List Entry

-- a full file: its format version, its two sections, and the packages of its index in order, the file's own first
pub record FullFile : Type 0 where
  pub bytes : List ℕ
  pub version : ℕ
  pub strings : Section
  pub body : Section
  pub packages : List Package

-- the packages of an index, where the empty path of the first stands for the file's own
abbrev pub named : List ℕ → List Package → List Package
named own [] = []
named own (p ∷ ps) = record { path = own; name = p.name; entries = p.entries } ∷ ps

-- a name of the index: its package's path, the name, and the offset
pub record Listed : Type 0 where
  pub path : List ℕ
  pub name : List ℕ
  pub offset : ℕ

abbrev pub listed_in : Package → List Listed
listed_in p = map (λ e. record { path = p.path; name = e.name; offset = e.offset }) p.entries

-- all names of the index, in order
abbrev pub listed : List Package → List Listed
listed ps = flat_map listed_in ps
