-- The index of a session's packages: where each path is listed first, in the order of the paths.
use Rattle.std.specs.Prelude.{◌≡◌, ℕ, List, [], map, Option, Some, None, option_map, unwrap_or, slice_get}
use Rattle.std.specs.Option.{option_and_then}
use Rattle.std.specs.List.{AllByRecursion, Contains}
use Rattle.wire_bytes.specs.Order.{Rise}
use Rattle.name_index.specs.FullFile.{Package, Listed}
use Rattle.name_index.specs.Lookup.{heading_at}
use Rattle.session_files.specs.Sessions.{Opened}
use Rattle.session_files.specs.Answers.{packages}
use Rattle.session_files.specs.Index.{Spot}

-- the path and the name of the package that is listed there: the numbers of its file and in the file's index
abbrev pub package_at : List Opened → Spot → Option (List ℕ × List ℕ)
package_at files at = option_and_then (λ o. heading_at o.file.packages at.1) (slice_get files at.0)

-- its path, and an empty one where none is listed
abbrev pub path_at : List Opened → Spot → List ℕ
path_at files at = unwrap_or (option_map (λ x. x.0) (package_at files at)) []

abbrev pub package_name_at : List Opened → Spot → Option (List ℕ)
package_name_at files at = option_map (λ x. x.1) (package_at files at)

-- A package is listed there, and its name is the one that its path has in the session.
pub record NamesPath (files : List Opened) (at : Spot) : Type 0 where
  pub name : List ℕ
  pub there : package_name_at files at ≡ Some name
  pub named : packages files (path_at files at) ≡ Some name

-- The paths rise, each stands where its name is, and a path that doesn't stand in the index is listed by no file.
pub record IsPathIndex (files : List Opened) (paths : List Spot) : Type 0 where
  pub rise : Rise (map (path_at files) paths)
  pub named : AllByRecursion (NamesPath files) paths
  pub all : (path : List ℕ) → (Contains (map (path_at files) paths) path → ⊥) → packages files path ≡ None

-- ---- as it is made

-- a path, with an empty name
abbrev pub bare : Package → Listed
bare p = record { path = p.path; name = []; offset = 0 }

-- the paths that a file lists
abbrev pub paths_of : Opened → List Listed
paths_of o = map bare o.file.packages
