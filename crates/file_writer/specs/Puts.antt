-- What the parts of the writer do.
use Rattle.std.specs.Prelude.{◌≡◌, ℕ, List, ◌∷◌, ◌++◌, map, fold}
use Rattle.wire_bytes.specs.Section.{spelling_of, with_text}
use Rattle.name_index.specs.FullFile.{Entry, Package}
use Rattle.file_writer.specs.declared.writing.IndexEntry.{IndexEntry}
use Rattle.file_writer.specs.declared.writing.IndexPackage.{IndexPackage}

abbrev pub entry_of : IndexEntry → Entry
entry_of e = record { name = e.name.now; offset = e.offset }

abbrev pub package_of : IndexPackage → Package
package_of p = record { path = p.path.now; name = p.name.now; entries = map entry_of p.entries.now }

-- the letter i, the version, and the sizes of the two sections
abbrev pub front_bytes : ℕ → ℕ → List ℕ
front_bytes strings body = 105 ∷ (spelling_of 2 ++ (spelling_of strings ++ spelling_of body))

-- Some texts were mentioned, and bytes were added in which texts are named by their offsets, whatever is mentioned
-- later.
pub record Puts (texts : List (List ℕ)) (bytes_of : List (List ℕ) → List ℕ) (old new : List (List ℕ))
    (before after : List ℕ) : Type 0 where
  pub said : new ≡ fold with_text old texts
  pub added : (more : List (List ℕ)) → after ≡ before ++ bytes_of (new ++ more)
