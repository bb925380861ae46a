-- The lines of `list`.
use Rattle.std.specs.Prelude.{ℕ, List, [], ◌∷◌, map, slice_get}
use Rattle.std.specs.List.{flat_map}
use Rattle.std.specs.Option.{option_map_or}
use Rattle.name_index.specs.FullFile.{Entry, Package}
use Rattle.session_files.specs.Sessions.{Opened}
use Rattle.exportdata_cmd.specs.Printed.{Line, package_line, name_line}

-- the names of a package, each with the place of its declaration in the data section
abbrev pub name_lines : List Entry → List Line
name_lines entries = map (λ e. name_line e.name e.offset) entries

-- a package and then its names
abbrev pub lines_of_package : Package → List Line
lines_of_package p = package_line p.path p.name ∷ name_lines p.entries

-- the packages in the order of the index
abbrev pub lines_of : List Package → List Line
lines_of packages = flat_map lines_of_package packages

-- the files in the order in which they were taken in
abbrev pub file_lines : List Opened → List Line
file_lines files = flat_map (λ o. lines_of o.file.packages) files

-- what the package at a place lists, and its lines
abbrev pub entries_at : List Package → ℕ → List Entry
entries_at packages k = option_map_or (λ p. p.entries) (slice_get packages k) []

abbrev pub lines_at : List Package → ℕ → List Line
lines_at packages k = option_map_or lines_of_package (slice_get packages k) []
