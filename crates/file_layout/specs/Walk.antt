-- What writing does, in order: texts and paths are mentioned, and a descriptor ends behind those of its parts.
use Rattle.std.specs.Prelude.{ℕ, zero, suc, List, [], ◌∷◌, ◌++◌, Bool, true, false, cond}
use Rattle.position_codec.specs.Place.{Place, no_place, place_of}
use Rattle.type_terms.specs.Parts.{tree_size}
use Rattle.type_terms.specs.Trees.{Text, Tree, predeclared, level_of}
use Rattle.type_terms.specs.Declarations.{Decl}
use Rattle.decl_spelling.specs.Sections.{Basics}
use Rattle.file_layout.specs.Items.{Item, a_text, a_path, a_position, a_type, level_items, decl_items}
use Rattle.file_layout.specs.Bytes.{same_file, place_after, path_text}

pub data Event : Type 0 where
  says : Text → Event
  tells : Text → Event
  ends : Tree → Event

-- whether a type has a descriptor
abbrev pub is_made : Tree → Bool
is_made (predeclared basic) = false
is_made _ = true

module _ (walk : Tree → List Event) where
  -- A file is named where it is another one.
  abbrev pub item_events : Place → Item → List Event
  item_events before (a_text text) = says text ∷ []
  item_events before (a_path path) = tells path ∷ []
  item_events before (a_position pos) = cond (same_file before (place_of pos)) [] (says (place_of pos).file ∷ [])
  item_events before (a_type type) = walk type
  item_events before _ = []

  abbrev pub items_events : Place → List Item → List Event
  items_events before [] = []
  items_events before (x ∷ xs) = item_events before x ++ items_events (place_after before x) xs

-- The number bounds the levels.
abbrev pub type_events : ℕ → Tree → List Event
type_events zero type = []
type_events (suc n) type =
    cond (is_made type) (items_events (type_events n) no_place (level_items (level_of type)) ++ ends type ∷ []) []

abbrev pub walk : Tree → List Event
walk type = type_events (tree_size type) type

abbrev pub decl_events : Basics → Decl → List Event
decl_events basics decl = items_events walk no_place (decl_items basics decl)

-- the texts that are mentioned
abbrev pub event_texts : Text → Event → List Text
event_texts own (says text) = text ∷ []
event_texts own (tells path) = path_text own path ∷ []
event_texts own (ends type) = []

abbrev pub event_paths : Event → List Text
event_paths (says text) = []
event_paths (tells path) = path ∷ []
event_paths (ends type) = []
