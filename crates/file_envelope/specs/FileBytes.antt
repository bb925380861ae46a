-- The bytes of a full file of format version 2, from its texts, its data section and its index.
use Rattle.std.specs.Prelude.{ℕ, ◌+◌, ◌<◌, ◌^◌, List, ◌∷◌, ◌++◌, length, map, unwrap_or}
use Rattle.std.specs.List.{flat_map, Contains, AllByRecursion}
use Rattle.wire_bytes.specs.Section.{section_of, spelling_of, offset_in}
use Rattle.name_index.specs.FullFile.{Entry, Package, FullFile, named}
use Rattle.file_parts.specs.Paths.{ArePaths}
use Rattle.wire_bytes.specs.Order.{Rise}

-- where a text stands in the section of some texts
abbrev pub text_number : List (List ℕ) → List ℕ → ℕ
text_number texts text = unwrap_or (offset_in texts text) 0

-- the texts of an index, in its order
abbrev pub package_texts : Package → List (List ℕ)
package_texts p = p.path ∷ p.name ∷ map (λ e. e.name) p.entries

abbrev pub index_texts : List Package → List (List ℕ)
index_texts packages = flat_map package_texts packages

-- The texts of the string section.
module _ (texts : List (List ℕ)) where
  abbrev pub entry_bytes : Entry → List ℕ
  entry_bytes e = spelling_of (text_number texts e.name) ++ spelling_of e.offset

  -- path, name, the height 0, and the names behind their count
  abbrev pub package_bytes : Package → List ℕ
  package_bytes p =
      spelling_of (text_number texts p.path)
      ++ (spelling_of (text_number texts p.name)
      ++ (spelling_of 0 ++ (spelling_of (length p.entries) ++ flat_map entry_bytes p.entries)))

  abbrev pub index_bytes : List Package → List ℕ
  index_bytes packages = spelling_of (length packages) ++ flat_map package_bytes packages

-- the letter i, the version and the sizes of the two sections
abbrev pub header : List (List ℕ) → List ℕ → List ℕ
header texts body =
    105 ∷ (spelling_of 2 ++ (spelling_of (length (section_of texts)) ++ spelling_of (length body)))

-- the header, the two sections, and the index
abbrev pub full_bytes : List (List ℕ) → List ℕ → List Package → List ℕ
full_bytes texts body packages = header texts body ++ (section_of texts ++ (body ++ index_bytes texts packages))

-- what these bytes are, as a full file of the path own
abbrev pub file_of : List ℕ → List (List ℕ) → List ℕ → List Package → FullFile
file_of own texts body packages = record {
  bytes = full_bytes texts body packages;
  version = 2;
  strings = record { at = length (header texts body); len = length (section_of texts) };
  body = record { at = length (header texts body) + length (section_of texts); len = length body };
  packages = named own packages;
}

-- What an index asks for: its paths are those of an index, the names of each package rise, their offsets lie in the
-- data section, its texts are among those of the string section, and the file's length has 64 bits.
pub record MayFollow (own : List ℕ) (texts : List (List ℕ)) (body : List ℕ) (packages : List Package) : Type 0 where
  pub paths : ArePaths own (map (λ p. p.path) packages)
  pub names : AllByRecursion (λ p. Rise (map (λ e. e.name) p.entries)) packages
  pub offsets : AllByRecursion (λ p. AllByRecursion (λ e. e.offset < length body) p.entries) packages
  pub known : AllByRecursion (Contains texts) (index_texts packages)
  pub short : length (full_bytes texts body packages) < 2 ^ 64
