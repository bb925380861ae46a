-- The data section: blocks are placed one behind the other, those that a block names before it.
use Rattle.std.specs.Prelude.{ℕ, ◌+◌, List, [], ◌∷◌, ◌++◌, Bool, cond, length}
use Rattle.std.specs.List.{list_any}
use Rattle.go_values.specs.declared.qualified.QName.{QName}
use Rattle.code_tables.specs.Basic.{basic_code}
use Rattle.code_tables.specs.DeclTag.{decl_tag_code}
use Rattle.position_codec.specs.Place.{no_place}
use Rattle.type_terms.specs.Trees.{Text, Tree, predeclared, level_of}
use Rattle.type_terms.specs.TreeEquality.{same_tree, same_name}
use Rattle.type_terms.specs.Declarations.{Decl}
use Rattle.decl_spelling.specs.declared.mention.TheConstants.{FIRST_DESCRIPTOR}
use Rattle.decl_spelling.specs.Sections.{Basics}
use Rattle.decl_spelling.specs.Spelling.{Block}
use Rattle.file_layout.specs.Items.{level_items, decl_items, decl_kind}
use Rattle.file_layout.specs.Bytes.{items_bytes}
use Rattle.file_layout.specs.Walk.{Event, says, tells, ends, decl_events}

-- ---- the numbers of types

abbrev pub is_placed : List Block → Tree → Bool
is_placed blocks type = list_any (λ block. same_tree type block.tree) blocks

abbrev pub start_of : List Block → Tree → ℕ
start_of [] type = 0
start_of (block ∷ blocks) type = cond (same_tree type block.tree) block.start (start_of blocks type)

abbrev pub number_from : Tree → ℕ → ℕ
number_from (predeclared basic) start = basic_code basic
number_from _ start = FIRST_DESCRIPTOR + start

-- a predeclared type by its code, another by the start of its descriptor
abbrev pub number_in : List Block → Tree → ℕ
number_in blocks type = number_from type (start_of blocks type)

-- ---- the data section so far

-- a name, and where its declaration starts
pub record Line : Type 0 where
  pub name : QName
  pub start : ℕ

pub record Written : Type 0 where
  pub bytes : List ℕ
  pub blocks : List Block
  pub lines : List Line

abbrev pub nothing_written : Written
nothing_written = record { bytes = []; blocks = []; lines = [] }

-- The own path, and the offsets of texts.
module _ (own : Text) (offset : Text → ℕ) where
  abbrev pub type_bytes : List Block → Tree → List ℕ
  type_bytes blocks type = items_bytes own offset (number_in blocks) no_place (level_items (level_of type))

  abbrev pub decl_bytes : Basics → List Block → Decl → List ℕ
  decl_bytes basics blocks decl =
      decl_tag_code (decl_kind decl) ∷ items_bytes own offset (number_in blocks) no_place (decl_items basics decl)

  unfoldable pub place_type : Written → Tree → Written
  place_type w type = record {
    bytes = w.bytes ++ type_bytes w.blocks type;
    blocks =
        w.blocks
        ++ record { start = length w.bytes; end = length w.bytes + length (type_bytes w.blocks type); tree = type }
        ∷ [];
    lines = w.lines;
  }

  -- A descriptor is written once.
  abbrev pub happen : Written → Event → Written
  happen w (says text) = w
  happen w (tells path) = w
  happen w (ends type) = cond (is_placed w.blocks type) w (place_type w type)

  abbrev pub happen_all : Written → List Event → Written
  happen_all w [] = w
  happen_all w (e ∷ es) = happen_all (happen w e) es

  unfoldable pub place_decl : Basics → Written → QName → Decl → Written
  place_decl basics w q decl = record {
    bytes = w.bytes ++ decl_bytes basics w.blocks decl;
    blocks = w.blocks;
    lines = w.lines ++ record { name = q; start = length w.bytes } ∷ [];
  }

  -- a declaration, behind the descriptors that it names
  abbrev pub write_decl : Basics → Written → QName → Decl → Written
  write_decl basics w q decl = place_decl basics (happen_all w (decl_events basics decl)) q decl

-- where a name's declaration starts
abbrev pub line_start : List Line → QName → ℕ
line_start [] q = 0
line_start (line ∷ lines) q = cond (same_name q line.name) line.start (line_start lines q)
