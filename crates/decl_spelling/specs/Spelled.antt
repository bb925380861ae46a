-- What the parts of a block are spelled with: texts with their offsets, and the positions that types drop. What is
-- meant is the same with less.
use Rattle.std.specs.Prelude.{ℕ, [], Option, Some, None}
use Rattle.go_values.specs.declared.positions.Pos.{Pos}
use Rattle.go_values.specs.declared.constants.Const.{Const}
use Rattle.type_terms.specs.Trees.{Text}
use Rattle.type_terms.specs.Shapes.{OriginOf, Shape, shape_map}
use Rattle.type_terms.specs.Declarations.{Form, form_map}

-- A text, and the stringOff that spelled it. Only what a file doesn't have, as the origin of a field in a full file,
-- has none: then the text is empty.
pub record SpelledText : Type 0 where
  pub offset : Option ℕ
  pub text : Text

-- the path of a package, and the stringOff of the text that stood for it
pub record SpelledPath : Type 0 where
  pub offset : Option ℕ
  pub path : Text

-- a position, and the stringOff that spelled its file so far in the block, if one did
pub record SpelledPos : Type 0 where
  pub pos : Pos
  pub file : Option ℕ

-- A type by its typeOff. An embedded element of an interface and the base of an instance have a position, which types
-- drop.
pub record SpelledType : Type 0 where
  pub number : ℕ
  pub pos : Option SpelledPos

-- a constant's value, and the stringOff of one that is a text
pub record SpelledConst : Type 0 where
  pub offset : Option ℕ
  pub value : Const

abbrev pub without_pos : ℕ → SpelledType
without_pos number = record { number = number; pos = None }

abbrev pub with_pos : SpelledPos → SpelledType → SpelledType
with_pos pos type = record { number = type.number; pos = Some pos }

-- only literals of other packages in shallow files have an origin
abbrev pub no_origin : OriginOf SpelledText SpelledPath
no_origin = record { text = record { offset = None; text = [] }; path = record { offset = None; path = [] } }

-- the parts of a descriptor and of a declaration, whatever stands for the types
abbrev pub SpelledShape : Type 0 → Type 0
SpelledShape R = Shape SpelledPos SpelledText SpelledPath R

abbrev pub SpelledForm : Type 0 → Type 0
SpelledForm R = Form SpelledPos SpelledText R

-- what a declaration is spelled with: its parts, and the stringOff of a constant's value that is a text
pub record SpelledDecl : Type 0 where
  pub form : SpelledForm SpelledType
  pub value : Option ℕ

-- ---- what is meant

abbrev pub pos_meant : SpelledPos → Pos
pos_meant x = x.pos

abbrev pub text_meant : SpelledText → Text
text_meant x = x.text

abbrev pub path_meant : SpelledPath → Text
path_meant x = x.path

abbrev pub meant : {R : Type 0} → SpelledShape R → Shape Pos Text Text R
meant shape = shape_map pos_meant text_meant path_meant (λ type. type) shape

abbrev pub form_meant : {R : Type 0} → SpelledForm R → Form Pos Text R
form_meant form = form_map pos_meant text_meant (λ type. type) form
