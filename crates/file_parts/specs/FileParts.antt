-- The parts of a file, as its readers take them.
use Rattle.std.specs.Prelude.{◌≡◌, ℕ, ◌+◌, ◌≤◌, ◌⊎◌, List, length, slice_range}
use Rattle.std.specs.List.{AllByRecursion}
use Rattle.file_parts.specs.declared.parts.Parts.{Parts}
use Rattle.file_parts.specs.Paths.{texts_of, IsInside, ArePathsIn}

-- the string section
abbrev pub strings_of : Parts → List ℕ
strings_of p = slice_range p.file.now p.strings_at (p.strings_at + p.strings_len)

-- the data section
abbrev pub body_of : Parts → List ℕ
body_of p = slice_range p.file.now p.body_at (p.body_at + p.body_len)

-- the paths of the index, as they are spelled there
abbrev pub paths_of : Parts → List (List ℕ)
paths_of p = texts_of (strings_of p) p.paths.now

-- What the parts of one file keep: both sections lie inside it, the version is one that is known, and the paths are
-- those of an index of its form.
pub record IsOfFile (p : Parts) : Type 0 where
  pub strings_inside : p.strings_at + p.strings_len ≤ length p.file.now
  pub body_inside : p.body_at + p.body_len ≤ length p.file.now
  pub known : (p.version ≡ 1) ⊎ (p.version ≡ 2)
  pub paths_inside : AllByRecursion (IsInside (strings_of p)) p.paths.now
  pub paths : ArePathsIn p.form p.own.now (paths_of p)
