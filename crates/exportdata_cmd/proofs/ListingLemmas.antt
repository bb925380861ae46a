-- What a look-up in an index says of its lists.
use Rattle.std.proofs.Common.{unwrap_or, ◌≡◌, ◌<◌, arith, ℕ, suc, zero, List, [], ◌∷◌, ◌++◌, length, Option, None, Some}
use Rattle.std.proofs.Common.{slice_get, refl, sym, ap}
use Rattle.std.specs.List.{flat_map}
use Rattle.std.specs.Option.{option_map, option_map_or, option_and_then}
use Rattle.std.proofs.lemmas.List.Concat.{flat_map_single}
use Rattle.name_index.specs.FullFile.{Entry, Package}
use Rattle.name_index.specs.Lookup.{heading_at, name_at, names_at}
use Rattle.exportdata_cmd.specs.Printed.{Line, package_line, name_line}
use Rattle.exportdata_cmd.specs.Listing.{name_lines, lines_of_package, entries_at, lines_at}

-- the line of a name, as a list of lines
abbrev pub line_of_name : Entry → List Line
line_of_name e = name_line e.name e.offset ∷ []

pub name_lines_are : (entries : List Entry) → name_lines entries ≡ flat_map line_of_name entries
name_lines_are entries = sym (flat_map_single (λ e. name_line e.name e.offset) entries)

abbrev entry_of : Option (List ℕ × ℕ) → Option Entry
entry_of None = None
entry_of (Some p) = Some (record { name = p.0; offset = p.1 })

found_entry : (o : Option Entry) (name : List ℕ) (offset : ℕ)
    → ◌≡◌ {A = Option (List ℕ × ℕ)} (Some (name, offset)) (option_map (λ e. (e.name, e.offset)) o)
    → o ≡ Some (record { name = name; offset = offset })
found_entry None name offset e = cc
found_entry (Some entry) name offset e = ap entry_of (sym e)

found_in : (o : Option Package) (j : ℕ) (name : List ℕ) (offset : ℕ)
    → ◌≡◌ {A = Option (List ℕ × ℕ)} (Some (name, offset)) (option_and_then (λ p. option_map (λ e. (e.name, e.offset)) (slice_get p.entries j)) o)
    → slice_get (option_map_or (λ p. p.entries) o []) j ≡ Some (record { name = name; offset = offset })
found_in None j name offset e = cc
found_in (Some p) j name offset e = found_entry (slice_get p.entries j) name offset e

-- a name that is found
pub found_name : (packages : List Package) (k j : ℕ) (name : List ℕ) (offset : ℕ)
    → Some (name, offset) ≡ name_at packages k j
    → slice_get (entries_at packages k) j ≡ Some (record { name = name; offset = offset })
found_name packages k j name offset e = found_in (slice_get packages k) j name offset e

-- the first line of a package, as a list of lines
abbrev heading_line : List ℕ × List ℕ → List Line
heading_line p = package_line p.0 p.1 ∷ []

headed : (o : Option Package) (path name : List ℕ)
    → ◌≡◌ {A = Option (List ℕ × List ℕ)} (Some (path, name)) (option_map (λ p. (p.path, p.name)) o)
    → option_map_or lines_of_package o [] ≡ package_line path name ∷ name_lines (option_map_or (λ p. p.entries) o [])
headed None path name e = cc
headed (Some p) path name e =
    ap (λ o. option_map_or heading_line o [] ++ name_lines p.entries) (sym e)

-- a package that is found
pub found_package : (packages : List Package) (k : ℕ) (path name : List ℕ) → Some (path, name) ≡ heading_at packages k
    → lines_at packages k ≡ package_line path name ∷ name_lines (entries_at packages k)
found_package packages k path name e = headed (slice_get packages k) path name e

-- the package at a place below the count, and its lines
pub package_there : (packages : List Package) (k : ℕ) → k < length packages
    → (p : Package) × (slice_get packages k ≡ Some p) × (lines_at packages k ≡ lines_of_package p)
package_there [] k below = absurd (omega arith)
package_there (p ∷ packages) zero below = (p, refl, refl)
package_there (p ∷ packages) (suc k) below = package_there packages k (omega arith)

counted : (o : Option Package)
    → unwrap_or (option_map (λ p. length p.entries) o) 0 ≡ length (option_map_or (λ p. p.entries) o [])
counted None = refl
counted (Some p) = refl

-- how many names are listed
pub count_there : (packages : List Package) (k : ℕ) → names_at packages k ≡ length (entries_at packages k)
count_there packages k = counted (slice_get packages k)
