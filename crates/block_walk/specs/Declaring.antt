-- A declaration is written behind the descriptors of its types.
use Rattle.std.specs.Prelude.{◌≡◌, ℕ, List, [], ◌∷◌, ◌++◌}
use Rattle.go_values.specs.declared.qualified.QName.{QName}
use Rattle.type_terms.specs.declared.descriptors.Node.{Node}
use Rattle.type_terms.specs.Declarations.{Decl}
use Rattle.type_terms.specs.Trees.{Text}
use Rattle.decl_spelling.specs.Sections.{Basics}
use Rattle.file_envelope.specs.FileBytes.{text_number}
use Rattle.file_layout.specs.Walk.{decl_events}
use Rattle.file_layout.specs.Places.{place_decl}
use Rattle.block_walk.specs.declared.section.Section.{Section}
use Rattle.block_walk.specs.Going.{Out, with_events, IsClosed}
use Rattle.block_walk.specs.Standing.{HasRoom, Stands}

-- The own path, and the offsets of texts.
module _ (own : Text) (offset : Text → ℕ) (basics : Basics) where
  -- the declaration of a name stands behind all that was written
  abbrev pub decl_placed : Out → QName → Decl → Out
  decl_placed out q decl = record {
    texts = out.texts;
    paths = out.paths;
    names = out.names;
    written = place_decl own offset basics out.written q decl;
  }

  -- with its types before it
  abbrev pub with_decl : Out → QName → Decl → Out
  with_decl out q decl = decl_placed (with_events own offset out (decl_events basics decl)) q decl

-- The section stands for all that was written and the declaration of this name, which starts here; and again each type
-- that was written was gone through.
pub record IsWith (nodes : List Node) (own : Text) (offset : Text → ℕ) (basics : Basics) (decl : Decl) (start : ℕ)
    (new : Section) (out : Out) (q : QName) : Type 0 where
  pub stands : Stands nodes new (with_decl own offset basics out q decl)
  pub closed : IsClosed own offset (with_decl own offset basics out q decl)
  pub lines : (with_decl own offset basics out q decl).written.lines
      ≡ out.written.lines ++ record { name = q; start = start } ∷ []

-- A declaration was written where each type that was written was gone through, whatever is mentioned later, and
-- whatever its name is.
pub record Declares (nodes : List Node) (own : Text) (basics : Basics) (decl : Decl) (start : ℕ) (old new : Section)
    : Type 0 where
  pub texts : List Text
  pub grown : new.strings ≡ old.strings ++ texts
  pub room : HasRoom nodes new
  pub comes : (more : List Text) (out : Out) (q : QName) → Stands nodes old out
      → IsClosed own (text_number (new.strings ++ more)) out
      → IsWith nodes own (text_number (new.strings ++ more)) basics decl start new out q
