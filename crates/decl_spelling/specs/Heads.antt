-- Heads: the declaration of a defined type or an alias, as far as its type. It leads to a predeclared type, or on to
-- the name of another type. Only what stands before that is looked at: no other descriptor, and of a position only its
-- numbers and its text.
use Rattle.std.specs.Prelude.{◌≡◌, ℕ, zero, suc, ◌+◌, ◌-◌, ◌<◌, ◌⊎◌, ℤ, List, [], ◌∷◌, length, drop, Bool, true, false}
use Rattle.std.specs.Prelude.{Option, Some, None, Ok, Err, cond, nat_lt}
use Rattle.std.specs.Option.{option_map}
use Rattle.code_tables.specs.declared.predeclared.Basic.{Basic}
use Rattle.code_tables.specs.declared.descriptors.TypeTag.{TypeTag}
use Rattle.code_tables.specs.declared.descriptors.TypeTag.TheVariants as types
use Rattle.code_tables.specs.declared.declarations.DeclTag.{DeclTag}
use Rattle.code_tables.specs.declared.declarations.DeclTag.TheVariants as decls
use Rattle.code_tables.specs.TypeTag.{type_tag_code}
use Rattle.code_tables.specs.DeclTag.{decl_tag_code}
use Rattle.wire_bytes.specs.Reading.{InOrder}
use Rattle.wire_bytes.specs.Begins.{Begins}
use Rattle.wire_bytes.specs.Uvarint.{BeginsWith, Front, uvarint_in}
use Rattle.wire_bytes.specs.Varint.{Varint, signed_of}
use Rattle.wire_bytes.specs.Text.{Text, text_in}
use Rattle.position_codec.specs.Place.{is_odd}
use Rattle.file_parts.specs.Paths.{meant}
use Rattle.decl_spelling.specs.declared.mention.TheConstants.{FIRST_DESCRIPTOR}
use Rattle.decl_spelling.specs.Sections.{Sections}
use Rattle.decl_spelling.specs.Codes.{basic_of, type_tag_of, decl_tag_of}

-- where a head leads: to a predeclared type, or to a name under a package's path
pub data Lead : Type 0 where
  to_basic : Basic → Lead
  to_name : List ℕ → List ℕ → Lead

-- ---- what stands in some bytes, up to the rest

-- the offset of a text
abbrev pub HasText : List ℕ → List ℕ → List ℕ → List ℕ → Type 0
HasText strings a text b = (offset : ℕ) × BeginsWith a offset b × Text strings offset text

-- A position: the column's number, behind it the line's where the first is odd, and behind that the offset of the
-- file's name where the second is odd too.
abbrev pub HasFile : List ℕ → Bool → List ℕ → List ℕ → Type 0
HasFile strings false a b = a ≡ b
HasFile strings true a b = (text : List ℕ) × HasText strings a text b

abbrev pub HasLine : List ℕ → Bool → List ℕ → List ℕ → Type 0
HasLine strings false a b = a ≡ b
HasLine strings true a b =
    (line : ℤ) × (next : List ℕ) × Begins Varint a line next × HasFile strings (is_odd line) next b

abbrev pub HasPosition : List ℕ → List ℕ → List ℕ → Type 0
HasPosition strings a b =
    (column : ℤ) × (next : List ℕ) × Begins Varint a column next × HasLine strings (is_odd column) next b

-- a count of at least 1, and that many numbers
abbrev pub HasNumbers : List ℕ → List ℕ → Type 0
HasNumbers a b =
    (numbers : List ℕ) × (next : List ℕ) × (0 < length numbers) × BeginsWith a (length numbers) next
    × InOrder BeginsWith next numbers b

-- a name, and the text that stands for the path of its package, whether or not the index lists it
pub record HasName (src : Sections) (a : List ℕ) (path name : List ℕ) : Type 0 where
  pub at_path : List ℕ
  pub rest : List ℕ
  pub text : List ℕ
  pub name_stands : HasText src.strings a name at_path
  pub path_stands : HasText src.strings at_path text rest
  pub means : path ≡ meant src.own text

-- ---- descriptors at an offset of the data section

-- of this kind, which the file's version has, with its parts from here on
abbrev pub IsKindAt : Sections → ℕ → TypeTag → List ℕ → Type 0
IsKindAt src start kind a =
    BeginsWith (drop start src.body) (type_tag_code kind) a × (type_tag_of src.version (type_tag_code kind) ≡ Some kind)

-- a defined type or an alias by its name
pub record IsNameAt (src : Sections) (start : ℕ) (path name : List ℕ) : Type 0 where
  pub kind : TypeTag
  pub at_name : List ℕ
  pub its_kind : (kind ≡ types.Defined) ⊎ (kind ≡ types.Alias)
  pub stands : IsKindAt src start kind at_name
  pub names : HasName src at_name path name

-- an instance of a generic one
pub record IsInstanceAt (src : Sections) (start : ℕ) (path name : List ℕ) : Type 0 where
  pub at_pos : List ℕ
  pub at_arguments : List ℕ
  pub at_base : List ℕ
  pub rest : List ℕ
  pub base : ℕ
  pub stands : IsKindAt src start types.Instance at_pos
  pub pos : HasPosition src.strings at_pos at_arguments
  pub arguments : HasNumbers at_arguments at_base
  pub base_stands : BeginsWith at_base (FIRST_DESCRIPTOR + base) rest
  pub names : IsNameAt src base path name

-- where a typeOff leads
abbrev pub LeadsTo : Sections → ℕ → Lead → Type 0
LeadsTo src number (to_basic basic) = (number < FIRST_DESCRIPTOR) × (basic_of src.version number ≡ Some basic)
LeadsTo src number (to_name path name) =
    (start : ℕ) × (number ≡ FIRST_DESCRIPTOR + start)
    × (IsNameAt src start path name ⊎ IsInstanceAt src start path name)

-- ---- declarations

-- the type parameters of a declaration of a type, as numbers
abbrev pub HasTParams : DeclTag → List ℕ → List ℕ → Type 0
HasTParams decls.Defined a b = a ≡ b
HasTParams decls.GenericDefined a b = HasNumbers a b
HasTParams decls.Alias a b = a ≡ b
HasTParams decls.GenericAlias a b = HasNumbers a b
HasTParams _ a b = ⊥

-- At this offset a declaration begins that leads there.
pub record IsHead (src : Sections) (start : ℕ) (lead : Lead) : Type 0 where
  pub kind : DeclTag
  pub at_pos : List ℕ
  pub at_tparams : List ℕ
  pub at_type : List ℕ
  pub rest : List ℕ
  pub number : ℕ
  pub letter : drop start src.body ≡ decl_tag_code kind ∷ at_pos
  pub known : decl_tag_of src.version (decl_tag_code kind) ≡ Some kind
  pub pos : HasPosition src.strings at_pos at_tparams
  pub tparams : HasTParams kind at_tparams at_type
  pub type : BeginsWith at_type number rest
  pub leads : LeadsTo src number lead

-- ---- reading one

-- one step, and then what it leads to, unless it found nothing
infixl 10 ◌>>=◌
abbrev pub ◌>>=◌ : {A B : Type 0} → Option A → (A → Option B) → Option B
(Some x) >>= f = f x
None >>= f = None

-- what stands in front of some bytes, and the rest
abbrev pub Finder : Type 0 → Type 0
Finder X = List ℕ → Option (X × List ℕ)

abbrev pub find_byte : Finder ℕ
find_byte [] = None
find_byte (byte ∷ rest) = Some (byte, rest)

abbrev pub front_of : Front → Option (ℕ × List ℕ)
front_of (Ok x) = Some x
front_of (Err e) = None

abbrev pub find_number : Finder ℕ
find_number a = front_of (uvarint_in a)

unfoldable pub find_signed : Finder ℤ
find_signed a = do
  number ← find_number a
  Some (signed_of number.0, number.1)

unfoldable pub find_text : List ℕ → Finder (List ℕ)
find_text strings a = do
  offset ← find_number a
  text ← text_in strings offset.0
  Some (text, offset.1)

-- what follows a position, or a list of numbers
abbrev pub Passer : Type 0
Passer = List ℕ → Option (List ℕ)

unfoldable pub pass_file : List ℕ → Bool → Passer
pass_file strings false a = Some a
pass_file strings true a = do
  text ← find_text strings a
  Some text.1

unfoldable pub pass_line : List ℕ → Bool → Passer
pass_line strings false a = Some a
pass_line strings true a = do
  line ← find_signed a
  pass_file strings (is_odd line.0) line.1

unfoldable pub pass_position : List ℕ → Passer
pass_position strings a = do
  column ← find_signed a
  pass_line strings (is_odd column.0) column.1

unfoldable pub pass_times : ℕ → Passer
pass_times zero a = Some a
pass_times (suc n) a = do
  number ← find_number a
  pass_times n number.1

unfoldable pub pass_numbers : Passer
pass_numbers a = do
  count ← find_number a
  cond (nat_lt 0 count.0) (pass_times count.0 count.1) None

unfoldable pub find_name : Sections → List ℕ → Option Lead
find_name src a = do
  name ← find_text src.strings a
  text ← find_text src.strings name.1
  Some (to_name (meant src.own text.0) name.0)

-- the kind of the descriptor at an offset, and its parts
unfoldable pub kind_at : Sections → ℕ → Option (TypeTag × List ℕ)
kind_at src start = do
  number ← find_number (drop start src.body)
  kind ← type_tag_of src.version number.0
  Some (kind, number.1)

abbrev pub name_by : Sections → TypeTag → List ℕ → Option Lead
name_by src types.Defined a = find_name src a
name_by src types.Alias a = find_name src a
name_by src _ a = None

unfoldable pub name_at : Sections → ℕ → Option Lead
name_at src start = do
  kind ← kind_at src start
  name_by src kind.0 kind.1

-- the name that is the base of an instance, by its typeOff
abbrev pub base_of : Sections → ℕ → Option Lead
base_of src number = cond (nat_lt number FIRST_DESCRIPTOR) None (name_at src (number - FIRST_DESCRIPTOR))

unfoldable pub find_base : Sections → List ℕ → Option Lead
find_base src a = do
  at_arguments ← pass_position src.strings a
  at_base ← pass_numbers at_arguments
  base ← find_number at_base
  base_of src base.0

abbrev pub type_by : Sections → TypeTag → List ℕ → Option Lead
type_by src types.Instance a = find_base src a
type_by src kind a = name_by src kind a

unfoldable pub lead_at : Sections → ℕ → Option Lead
lead_at src start = do
  kind ← kind_at src start
  type_by src kind.0 kind.1

abbrev pub lead_of : Sections → ℕ → Option Lead
lead_of src number =
    cond (nat_lt number FIRST_DESCRIPTOR) (option_map to_basic (basic_of src.version number))
    (lead_at src (number - FIRST_DESCRIPTOR))

abbrev pub pass_tparams : DeclTag → Passer
pass_tparams decls.Defined a = Some a
pass_tparams decls.GenericDefined a = pass_numbers a
pass_tparams decls.Alias a = Some a
pass_tparams decls.GenericAlias a = pass_numbers a
pass_tparams _ a = None

-- where the declaration at an offset leads, if there is a head
unfoldable pub head_lead : Sections → ℕ → Option Lead
head_lead src start = do
  letter ← find_byte (drop start src.body)
  kind ← decl_tag_of src.version letter.0
  at_tparams ← pass_position src.strings letter.1
  at_type ← pass_tparams kind at_tparams
  number ← find_number at_type
  lead_of src number.0
