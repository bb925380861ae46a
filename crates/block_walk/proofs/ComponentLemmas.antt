-- What a walk comes to, part by part.
use Rattle.std.proofs.Common.{◌≡◌, ℕ, List, [], ◌∷◌, refl, sym, ◌∙◌}
use Rattle.std.specs.List.{flat_map}
use Rattle.type_terms.specs.Trees.{Text}
use Rattle.file_layout.specs.Layout.{said}
use Rattle.file_layout.specs.Walk.{Event, says, tells, ends, event_texts, event_paths}
use Rattle.file_layout.specs.Places.{happen_all}
use Rattle.block_walk.specs.Going.{Out, with_paths, with_event, with_events, event_names, with_names, leaf_names}
use Rattle.block_walk.proofs.KnownLemmas.{names_both}

module _ (own : Text) (offset : Text → ℕ) where
  pub texts_are : (out : Out) (es : List Event) → (with_events own offset out es).texts ≡ said out.texts (flat_map (event_texts own) es)
  texts_are out [] = refl
  texts_are out (says text ∷ es) = texts_are (with_event own offset out (says text)) es
  texts_are out (tells path ∷ es) = texts_are (with_event own offset out (tells path)) es
  texts_are out (ends type ∷ es) = texts_are (with_event own offset out (ends type)) es

  pub paths_are : (out : Out) (es : List Event) → (with_events own offset out es).paths ≡ with_paths out.paths (flat_map event_paths es)
  paths_are out [] = refl
  paths_are out (says text ∷ es) = paths_are (with_event own offset out (says text)) es
  paths_are out (tells path ∷ es) = paths_are (with_event own offset out (tells path)) es
  paths_are out (ends type ∷ es) = paths_are (with_event own offset out (ends type)) es

  pub names_are : (out : Out) (es : List Event) → (with_events own offset out es).names ≡ with_names out.names (flat_map event_names es)
  names_are out [] = refl
  names_are out (says text ∷ es) = names_are (with_event own offset out (says text)) es
  names_are out (tells path ∷ es) = names_are (with_event own offset out (tells path)) es
  names_are out (ends type ∷ es) = names_are (with_event own offset out (ends type)) es ∙ sym (names_both out.names (leaf_names type) (flat_map event_names es))

  pub written_is : (out : Out) (es : List Event) → (with_events own offset out es).written ≡ happen_all own offset out.written es
  written_is out [] = refl
  written_is out (says text ∷ es) = written_is (with_event own offset out (says text)) es
  written_is out (tells path ∷ es) = written_is (with_event own offset out (tells path)) es
  written_is out (ends type ∷ es) = written_is (with_event own offset out (ends type)) es
