-- The whole file: the names in order, the texts in the order of their first mention, the data section and the index.
use Rattle.std.specs.Prelude.{ℕ, List, [], ◌∷◌, ◌++◌, Bool, not, map, nat_eq, unwrap_or, Option}
use Rattle.std.specs.Prelude.{Some, None}
use Rattle.std.specs.List.{flat_map, filter}
use Rattle.std.specs.Cmp.Lexicographic.{pointwise}
use Rattle.go_values.specs.declared.qualified.QName.{QName}
use Rattle.wire_bytes.specs.Section.{with_text}
use Rattle.type_terms.specs.Trees.{Text}
use Rattle.type_terms.specs.Declarations.{Decl}
use Rattle.decl_spelling.specs.Sections.{Basics}
use Rattle.name_index.specs.FullFile.{Package}
use Rattle.file_envelope.specs.FileBytes.{index_texts, full_bytes, text_number}
use Rattle.file_layout.specs.Rising.{rising}
use Rattle.file_layout.specs.Walk.{Event, event_texts, event_paths, decl_events}
use Rattle.file_layout.specs.Places.{Written, nothing_written, write_decl, line_start, Line}

-- What a file is made of: its own path and its package's name, the names in the order of writing, the declarations as
-- they are written, the basic types to which names come down, and the names of other packages by their paths.
pub record Source : Type 0 where
  pub own : Text
  pub name : Text
  pub order : List QName
  pub decls : QName → Option Decl
  pub basics : Basics
  pub packages : Text → Option Text

-- ---- the texts, each once

abbrev pub said : List Text → List Text → List Text
said texts [] = texts
said texts (t ∷ ts) = said (with_text texts t) ts

module _ (s : Source) where
  abbrev pub events_by : Option Decl → List Event
  events_by (Some decl) = decl_events s.basics decl
  events_by None = []

  -- all that writing the declarations does
  abbrev pub events : List Event
  events = flat_map (λ q. events_by (s.decls q)) s.order

  -- ---- the index

  abbrev pub is_own : Text → Bool
  is_own path = pointwise nat_eq path s.own

  -- the paths of other packages that are mentioned, in bytewise order
  abbrev pub other_paths : List Text
  other_paths = filter (λ path. not (is_own path)) (rising (flat_map event_paths events))

  abbrev pub names_under : Text → List Text
  names_under path =
      rising (map (λ q. q.name) (filter (λ (q : QName). pointwise nat_eq q.path path) s.order))

  abbrev pub package_at : List Line → Text → Text → Text → Package
  package_at lines path spelled name = record {
    path = spelled;
    name = name;
    entries =
        map (λ own. record { name = own; offset = line_start lines (record { path = path; name = own }) })
        (names_under path);
  }

  -- the file's own package, whose path is spelled as the empty text, and then the others
  abbrev pub index : List Line → List Package
  index lines =
      package_at lines s.own [] s.name
      ∷ map (λ path. package_at lines path path (unwrap_or (s.packages path) [])) other_paths

  -- ---- the sections

  -- the texts of the data section, and then those of the index
  abbrev pub texts : List Text
  texts = said [] (flat_map (event_texts s.own) events ++ index_texts (index []))

  abbrev pub write_named : Written → QName → Option Decl → Written
  write_named w q (Some decl) = write_decl s.own (text_number texts) s.basics w q decl
  write_named w q None = w

  abbrev pub write_all : Written → List QName → Written
  write_all w [] = w
  write_all w (q ∷ qs) = write_all (write_named w q (s.decls q)) qs

  unfoldable pub layout : Written
  layout = write_all nothing_written s.order

  -- the bytes of the file
  abbrev pub file_bytes : List ℕ
  file_bytes = full_bytes texts layout.bytes (index layout.lines)
