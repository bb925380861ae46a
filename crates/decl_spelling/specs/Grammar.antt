-- What stands in a block, apart from how it is read: from these bytes, with this place before, to those.
use Rattle.std.specs.Prelude.{◌≡◌, ℕ, ◌^◌, ◌<◌, List, [], ◌∷◌, Bool, false, length, Option, Some, None}
use Rattle.code_tables.specs.declared.descriptors.TypeTag.{TypeTag}
use Rattle.code_tables.specs.declared.descriptors.TypeTag.TheVariants.{Defined, Pointer, Slice, Array, Chan, Map}
use Rattle.code_tables.specs.declared.descriptors.TypeTag.TheVariants.{Signature, Struct, Interface, TypeParameter}
use Rattle.code_tables.specs.declared.descriptors.TypeTag.TheVariants.{Instance, Union, Alias}
use Rattle.code_tables.specs.TypeTag.{type_tag_code}
use Rattle.wire_bytes.specs.Begins.{Begins}
use Rattle.wire_bytes.specs.Uvarint.{BeginsWith}
use Rattle.wire_bytes.specs.Varint.{Flag}
use Rattle.wire_bytes.specs.Text.{Text}
use Rattle.position_codec.specs.Place.{Named, moved_on}
use Rattle.position_codec.specs.Position.{Position}
use Rattle.file_parts.specs.Paths.{IsPathAt}
use Rattle.type_terms.specs.declared.literals.Dir.{Dir}
use Rattle.type_terms.specs.declared.literals.Dir.TheVariants.{Receive, Send, Both}
use Rattle.type_terms.specs.Shapes.{predeclared_of, named_of, parameter_of, alias_of}
use Rattle.type_terms.specs.Shapes.{pointer_of, slice_of, array_of, chan_of, map_of, func_of, struct_of, interface_of}
use Rattle.type_terms.specs.Shapes.{instance_of, union_of}
use Rattle.decl_spelling.specs.Sections.{Sections}
use Rattle.decl_spelling.specs.Codes.{type_tag_of}
use Rattle.decl_spelling.specs.Spelled.{SpelledText, SpelledPath, SpelledPos, SpelledType, no_origin}
use Rattle.decl_spelling.specs.Reading.{pos_after}
use Rattle.decl_spelling.specs.Descriptors.{Flat, Param, Sig, Field, Method, Term}

-- a place in a block: the bytes from there on, and the place that the next position is spelled after, with the name of
-- its file
pub record Here : Type 0 where
  pub left : List ℕ
  pub before : Named

abbrev pub IsNumber : Here → ℕ → Here → Type 0
IsNumber a n b = BeginsWith a.left n b.left × (b.before ≡ a.before)

abbrev pub IsTruth : Here → Bool → Here → Type 0
IsTruth a x b = Begins Flag a.left x b.left × (b.before ≡ a.before)

-- the offset of a text
abbrev pub IsText : Sections → Here → SpelledText → Here → Type 0
IsText src a x b = (offset : ℕ) × (x.offset ≡ Some offset) × IsNumber a offset b × Text src.strings offset x.text

-- the offset of the text that stands for a package's path
abbrev pub IsPath : Sections → Here → SpelledPath → Here → Type 0
IsPath src a x b =
    (offset : ℕ) × (x.offset ≡ Some offset) × IsNumber a offset b
    × IsPathAt src.strings src.own src.paths offset x.path

abbrev pub IsPos : Sections → Here → SpelledPos → Here → Type 0
IsPos src a x b =
    (now : Named) × Begins (Position src.strings a.before.place) a.left now b.left
    × (b.before ≡ moved_on a.before now) × (x ≡ pos_after a.before now)

-- a type that has no position
abbrev pub IsType : Here → SpelledType → Here → Type 0
IsType a x b = IsNumber a x.number b × (x.pos ≡ None)

-- things that stand one after the other
abbrev pub InTurn : {X : Type 0} → (Here → X → Here → Type 0) → Here → List X → Here → Type 0
InTurn Stands a [] b = a ≡ b
InTurn Stands a (x ∷ xs) b = (next : Here) × Stands a x next × InTurn Stands next xs b

-- behind their count
abbrev pub IsList : {X : Type 0} → (Here → X → Here → Type 0) → Here → List X → Here → Type 0
IsList Stands a xs b = (next : Here) × IsNumber a (length xs) next × InTurn Stands next xs b

pub record IsParam (src : Sections) (a : Here) (x : Param) (b : Here) : Type 0 where
  pub at_name : Here
  pub at_type : Here
  pub pos : IsPos src a x.pos at_name
  pub name : IsText src at_name x.name at_type
  pub type : IsType at_type x.type b

-- A flag stands only where there is a parameter.
abbrev pub IsVariadic : List Param → Here → Bool → Here → Type 0
IsVariadic [] a x b = (x ≡ false) × (a ≡ b)
IsVariadic (param ∷ params) a x b = IsTruth a x b

pub record IsSig (src : Sections) (a : Here) (x : Sig) (b : Here) : Type 0 where
  pub at_results : Here
  pub at_variadic : Here
  pub params : IsList (IsParam src) a x.params at_results
  pub results : IsList (IsParam src) at_results x.results at_variadic
  pub variadic : IsVariadic x.params at_variadic x.variadic b

pub record IsField (src : Sections) (a : Here) (x : Field) (b : Here) : Type 0 where
  pub at_name : Here
  pub at_type : Here
  pub at_embedded : Here
  pub at_tag : Here
  pub origin : x.origin ≡ no_origin
  pub pos : IsPos src a x.pos at_name
  pub name : IsText src at_name x.name at_type
  pub type : IsType at_type x.type at_embedded
  pub embedded : IsTruth at_embedded x.embedded at_tag
  pub tag : IsText src at_tag x.tag b

pub record IsMethod (src : Sections) (a : Here) (x : Method) (b : Here) : Type 0 where
  pub at_name : Here
  pub at_sig : Here
  pub origin : x.origin ≡ no_origin
  pub pos : IsPos src a x.pos at_name
  pub name : IsText src at_name x.name at_sig
  pub sig : IsSig src at_sig x.sig b

-- a position, and the type
abbrev pub IsEmbedded : Sections → Here → SpelledType → Here → Type 0
IsEmbedded src a x b =
    (pos : SpelledPos) × (x.pos ≡ Some pos) × (next : Here) × IsPos src a pos next × IsNumber next x.number b

abbrev pub IsTerm : Here → Term → Here → Type 0
IsTerm a x b = (next : Here) × IsTruth a x.tilde next × IsType next x.type b

abbrev pub dir_number : Dir → ℕ
dir_number Receive = 1
dir_number Send = 2
dir_number Both = 3

-- a name and the path of its package
abbrev pub IsQualified : Sections → Here → SpelledText → SpelledPath → Here → Type 0
IsQualified src a name path b = (next : Here) × IsText src a name next × IsPath src next path b

-- ---- descriptors, a case for each kind

abbrev pub IsParts : Sections → Here → Flat → Here → Type 0
IsParts src a (predeclared_of basic) b = ⊥
IsParts src a (named_of name path) b = IsQualified src a name path b
IsParts src a (parameter_of name path) b = IsQualified src a name path b
IsParts src a (alias_of name path) b = IsQualified src a name path b
IsParts src a (pointer_of type) b = IsType a type b
IsParts src a (slice_of type) b = IsType a type b
IsParts src a (array_of size type) b = (next : Here) × IsNumber a size next × (size < 2 ^ 63) × IsType next type b
IsParts src a (chan_of dir type) b = (next : Here) × IsNumber a (dir_number dir) next × IsType next type b
IsParts src a (map_of key type) b = (next : Here) × IsType a key next × IsType next type b
IsParts src a (func_of home sig) b = (next : Here) × IsPath src a home next × IsSig src next sig b
IsParts src a (struct_of home fields) b = (next : Here) × IsPath src a home next × IsList (IsField src) next fields b
IsParts src a (interface_of home embedded methods) b =
    (at_embedded at_methods : Here) × IsPath src a home at_embedded
    × IsList (IsEmbedded src) at_embedded embedded at_methods × IsList (IsMethod src) at_methods methods b
IsParts src a (instance_of base args) b =
    (pos : SpelledPos) × (base.pos ≡ Some pos) × (at_args at_base : Here) × IsPos src a pos at_args
    × IsList IsType at_args args at_base × (0 < length args) × IsNumber at_base base.number b
IsParts src a (union_of terms) b = IsList IsTerm a terms b × (0 < length terms)

-- the kind of a descriptor
abbrev pub tag_of : Flat → Option TypeTag
tag_of (predeclared_of basic) = None
tag_of (named_of name path) = Some Defined
tag_of (parameter_of name path) = Some TypeParameter
tag_of (alias_of name path) = Some Alias
tag_of (pointer_of type) = Some Pointer
tag_of (slice_of type) = Some Slice
tag_of (array_of size type) = Some Array
tag_of (chan_of dir type) = Some Chan
tag_of (map_of key type) = Some Map
tag_of (func_of home sig) = Some Signature
tag_of (struct_of home fields) = Some Struct
tag_of (interface_of home embedded methods) = Some Interface
tag_of (instance_of base args) = Some Instance
tag_of (union_of terms) = Some Union

-- the number of its kind, which the file's version has, and its parts
pub record IsDescriptor (src : Sections) (a : Here) (x : Flat) (b : Here) : Type 0 where
  pub kind : TypeTag
  pub its_kind : tag_of x ≡ Some kind
  pub at_parts : Here
  pub number : IsNumber a (type_tag_code kind) at_parts
  pub known : type_tag_of src.version (type_tag_code kind) ≡ Some kind
  pub parts : IsParts src at_parts x b
