-- What is to be done, step by step, to write a descriptor or a declaration.
use Rattle.std.specs.Prelude.{List, [], ◌∷◌, ◌++◌, cond, nat_eq}
use Rattle.std.specs.Cmp.Lexicographic.{pointwise}
use Rattle.position_codec.specs.Place.{Place, no_place, place_of}
use Rattle.type_terms.specs.Trees.{Text, Tree, level_of}
use Rattle.type_terms.specs.Declarations.{Decl}
use Rattle.decl_spelling.specs.Sections.{Basics}
use Rattle.file_layout.specs.Items.{Item, a_text, a_path, a_position, a_type, level_items, decl_items}
use Rattle.file_layout.specs.Bytes.{place_after}

-- A text or a path is mentioned, a type is met, or it is finished behind its parts.
pub data Step : Type 0 where
  say : Text → Step
  tell : Text → Step
  meet : Tree → Step
  finish : Tree → Step

-- A file is named where it is another one.
abbrev pub file_steps : Text → Text → List Step
file_steps before now = cond (pointwise nat_eq before now) [] (say now ∷ [])

abbrev pub item_steps : Place → Item → List Step
item_steps before (a_text text) = say text ∷ []
item_steps before (a_path path) = tell path ∷ []
item_steps before (a_position pos) = file_steps before.file (place_of pos).file
item_steps before (a_type type) = meet type ∷ []
item_steps before _ = []

abbrev pub items_steps : Place → List Item → List Step
items_steps before [] = []
items_steps before (x ∷ xs) = item_steps before x ++ items_steps (place_after before x) xs

-- of a descriptor
abbrev pub type_steps : Tree → List Step
type_steps type = items_steps no_place (level_items (level_of type)) ++ finish type ∷ []

-- of a declaration
abbrev pub decl_steps : Basics → Decl → List Step
decl_steps basics decl = items_steps no_place (decl_items basics decl)
