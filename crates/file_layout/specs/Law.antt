-- What a laid out file is to be, in the words of its readers.
use Rattle.std.specs.Prelude.{◌≡◌, ◌≢◌, ℕ, ◌^◌, ◌<◌, ◌⊎◌, List, [], ◌∷◌, length, Some}
use Rattle.std.specs.List.{Contains, flat_map}
use Rattle.go_values.specs.declared.qualified.QName.{QName}
use Rattle.type_terms.specs.Trees.{Text}
use Rattle.type_terms.specs.Declarations.{Decl}
use Rattle.decl_spelling.specs.Sections.{Sections}
use Rattle.decl_spelling.specs.Spelling.{SpellsDecl}
use Rattle.name_index.specs.FullFile.{FullFile, content, Listed, listed}
use Rattle.name_index.specs.Envelope.{Envelope}
use Rattle.file_envelope.specs.FileBytes.{file_of}
use Rattle.file_layout.specs.Walk.{event_paths}
use Rattle.file_layout.specs.Conditions.{DeclFits}
use Rattle.file_layout.specs.Layout.{Source, events, texts, other_paths, index, layout, file_bytes}

-- the paths that are mentioned
abbrev pub paths_told : Source → List Text
paths_told s = flat_map event_paths (events s)

-- What the layout asks of what it is made of: each name in the order has a declaration that fits, and is of the own
-- package or of one whose path is mentioned; no path but the own one is empty; and the file's length has 63 bits.
pub record CanBeWritten (s : Source) : Type 0 where
  pub decls : (q : QName) → Contains s.order q → (decl : Decl) × (s.decls q ≡ Some decl) × DeclFits s.basics decl
  pub under : (q : QName) → Contains s.order q → (q.path ≡ s.own) ⊎ Contains (paths_told s) q.path
  pub paths : (path : Text) → Contains (paths_told s) path → (path ≢ []) ⊎ (path ≡ s.own)
  pub short : length (file_bytes s) < 2 ^ 63

-- the file, as one is read
abbrev pub the_file : Source → FullFile
the_file s = file_of s.own (texts s) (layout s).bytes (index s (layout s).lines)

-- what readers of declarations are given of a file, whose index spells these paths
abbrev pub sections_of : Text → List Text → FullFile → Sections
sections_of own paths file = record {
  strings = content file.bytes file.strings;
  body = content file.bytes file.body;
  body_at = file.body.at;
  version = file.version;
  own = own;
  paths = paths;
}

abbrev pub name_of : Listed → QName
name_of l = record { path = l.path; name = l.name }

-- The bytes are a full file, whose index lists the names and no others; and at the offset of each its declaration is
-- spelled.
pub record Serves (s : Source) (bytes : List ℕ) : Type 0 where
  pub envelope : Envelope s.own bytes (the_file s)
  pub spelled : (l : Listed) → Contains (listed (the_file s).packages) l
      → (decl : Decl) × (s.decls (name_of l) ≡ Some decl)
      × SpellsDecl (sections_of s.own ([] ∷ other_paths s) (the_file s)) s.basics l.offset decl
  pub needed : (l : Listed) → Contains (listed (the_file s).packages) l → Contains s.order (name_of l)
  pub all : (q : QName) → Contains s.order q
      → (l : Listed) × Contains (listed (the_file s).packages) l × (name_of l ≡ q)
