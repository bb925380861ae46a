-- What is written by steps, where a type that was written isn't gone through again.
use Rattle.std.specs.Prelude.{◌≡◌, ℕ, zero, suc, fold, List, [], ◌∷◌, ◌++◌}
use Rattle.std.specs.Prelude.{Bool, true, not, ◌||◌, cond, is_some, nat_eq}
use Rattle.std.specs.List.{AllByRecursion, list_any}
use Rattle.std.specs.Cmp.Lexicographic.{pointwise}
use Rattle.go_values.specs.declared.qualified.QName.{QName}
use Rattle.wire_bytes.specs.Section.{offset_in, with_text}
use Rattle.position_codec.specs.Place.{no_place}
use Rattle.type_terms.specs.Parts.{tree_size}
use Rattle.type_terms.specs.Trees.{Text, Tree, named, parameter, alias, level_of}
use Rattle.export_order.specs.Order.{is_among}
use Rattle.file_layout.specs.Items.{level_items}
use Rattle.file_layout.specs.Bytes.{path_text}
use Rattle.file_layout.specs.Walk.{Event, says, tells, ends, is_made, walk}
use Rattle.file_layout.specs.Places.{Written, nothing_written, is_placed, place_type, happen}
use Rattle.block_writer.specs.Putting.{items_texts}
use Rattle.block_walk.specs.Steps.{Step, say, tell, meet, finish, type_steps}

-- What was written so far: the texts, paths and names that were mentioned, each once, and the data section.
pub record Out : Type 0 where
  pub texts : List Text
  pub paths : List Text
  pub names : List QName
  pub written : Written

abbrev pub nothing_out : Out
nothing_out = record { texts = []; paths = []; names = []; written = nothing_written }

-- a text was mentioned
abbrev pub IsSaid : List Text → Text → Type 0
IsSaid texts text = is_some (offset_in texts text) ≡ true

abbrev pub is_told : List Text → Text → Bool
is_told paths path = list_any (pointwise nat_eq path) paths

abbrev pub with_path : List Text → Text → List Text
with_path paths path = cond (is_told paths path) paths (paths ++ path ∷ [])

abbrev pub with_paths : List Text → List Text → List Text
with_paths paths [] = paths
with_paths paths (p ∷ ps) = with_paths (with_path paths p) ps

-- the name that a type is
abbrev pub leaf_names : Tree → List QName
leaf_names (named q) = q ∷ []
leaf_names (parameter q) = q ∷ []
leaf_names (alias q) = q ∷ []
leaf_names _ = []

abbrev pub with_name : List QName → QName → List QName
with_name names q = cond (is_among names q) names (names ++ q ∷ [])

abbrev pub with_names : List QName → List QName → List QName
with_names names [] = names
with_names names (q ∷ qs) = with_names (with_name names q) qs

-- the names that are mentioned
abbrev pub event_names : Event → List QName
event_names (says text) = []
event_names (tells path) = []
event_names (ends type) = leaf_names type

-- The own path, and the offsets of texts.
module _ (own : Text) (offset : Text → ℕ) where
  -- what comes of each event
  abbrev pub with_event : Out → Event → Out
  with_event out (says text) = record
      { texts = with_text out.texts text; paths = out.paths; names = out.names; written = out.written }
  with_event out (tells path) = record {
    texts = with_text out.texts (path_text own path);
    paths = with_path out.paths path;
    names = out.names;
    written = out.written;
  }
  with_event out (ends type) = record {
    texts = out.texts;
    paths = out.paths;
    names = with_names out.names (leaf_names type);
    written = happen own offset out.written (ends type);
  }

  abbrev pub with_events : Out → List Event → Out
  with_events out [] = out
  with_events out (e ∷ es) = with_events (with_event out e) es

  -- A descriptor is put, with the texts that it mentions; one that was written is let be.
  abbrev pub put_type : Out → Tree → Out
  put_type out type = record {
    texts = fold with_text out.texts (items_texts own no_place (level_items (level_of type)));
    paths = out.paths;
    names = with_names out.names (leaf_names type);
    written = place_type own offset out.written type;
  }

  abbrev pub finished : Out → Tree → Out
  finished out type = cond (is_placed out.written.blocks type) out (put_type out type)

  -- predeclared, or written
  abbrev pub is_settled : Out → Tree → Bool
  is_settled out type = not (is_made type) || is_placed out.written.blocks type

  module _ (go : Out → Tree → Out) where
    abbrev pub with_step : Out → Step → Out
    with_step out (say text) = with_event out (says text)
    with_step out (tell path) = with_event out (tells path)
    with_step out (meet type) = go out type
    with_step out (finish type) = finished out type

    abbrev pub with_steps : Out → List Step → Out
    with_steps out [] = out
    with_steps out (step ∷ steps) = with_steps (with_step out step) steps

  -- A type is gone through unless it is settled. The number bounds the levels.
  abbrev pub gone : ℕ → Out → Tree → Out
  gone zero out type = out
  gone (suc n) out type = cond (is_settled out type) out (with_steps (gone n) out (type_steps type))

  abbrev pub went : Out → Tree → Out
  went out type = gone (tree_size type) out type

  -- all that steps come to
  abbrev pub after : Out → List Step → Out
  after out steps = with_steps went out steps

  -- ---- what is known

  -- an event would change nothing
  abbrev pub IsKnown : Out → Event → Type 0
  IsKnown out (says text) = IsSaid out.texts text
  IsKnown out (tells path) = IsSaid out.texts (path_text own path) × (is_told out.paths path ≡ true)
  IsKnown out (ends type) = (is_placed out.written.blocks type ≡ true)
      × AllByRecursion (λ q. is_among out.names q ≡ true) (leaf_names type)

  -- each type that was written was gone through
  abbrev pub IsClosed : Out → Type 0
  IsClosed out = (type : Tree) → is_placed out.written.blocks type ≡ true → AllByRecursion (IsKnown out) (walk type)
