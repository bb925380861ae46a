-- Which bytes spell a declaration: blocks that explain each other.
use Rattle.std.specs.Prelude.{◌≡◌, ◌≢◌, ℕ, ◌+◌, ◌*◌, ◌<◌, ◌≤◌, ◌⊎◌, List, [], ◌∷◌, Bool, true, false, IsTrue, length}
use Rattle.std.specs.Prelude.{drop, Option, Some, None, map, ℤ}
use Rattle.std.specs.List.{Contains, All}
use Rattle.go_values.specs.declared.constants.Const.TheVariants.{Bool as truth, Int as whole}
use Rattle.code_tables.specs.declared.declarations.DeclTag.{DeclTag}
use Rattle.code_tables.specs.declared.declarations.DeclTag.TheVariants.{Var, Func, GenericFunc, Const as ConstTag}
use Rattle.code_tables.specs.declared.declarations.DeclTag.TheVariants.{Defined, GenericDefined, Alias, GenericAlias}
use Rattle.code_tables.specs.declared.declarations.DeclTag.TheVariants.{TypeParameter}
use Rattle.code_tables.specs.DeclTag.{decl_tag_code}
use Rattle.wire_bytes.specs.Begins.{Begins}
use Rattle.wire_bytes.specs.Whole.{Whole}
use Rattle.position_codec.specs.Place.{Named, no_place}
use Rattle.type_terms.specs.Shapes.{SigOf, instance_of, sig_map, shape_types, retype}
use Rattle.type_terms.specs.Trees.{Tree, predeclared, tree_of}
use Rattle.type_terms.specs.Declarations.{ReceiverOf, var_of, function_of, constant_of, defined_of, renamed_of}
use Rattle.type_terms.specs.Declarations.{type_parameter_of, receiver_map, form_map, form_types, Decl}
use Rattle.decl_spelling.specs.declared.mention.TheConstants.{FIRST_DESCRIPTOR}
use Rattle.decl_spelling.specs.Sections.{Sections, Basics}
use Rattle.decl_spelling.specs.Spelled.{SpelledText, SpelledPos, SpelledType, SpelledConst, SpelledShape, SpelledForm}
use Rattle.decl_spelling.specs.Spelled.{SpelledDecl, meant, form_meant}
use Rattle.decl_spelling.specs.Codes.{basic_of, decl_tag_of}
use Rattle.decl_spelling.specs.Descriptors.{Flat, Sig}
use Rattle.decl_spelling.specs.Descent.{is_parameter, is_interface, is_underlying, is_generic}
use Rattle.decl_spelling.specs.Constants.{Spelling, flag, offset, number, spelled, kind_of, kind_number, basic_type}
use Rattle.decl_spelling.specs.Constants.{value_alone, text_value}
use Rattle.decl_spelling.specs.Declarations.{has_methods, Receiver}
use Rattle.decl_spelling.specs.Grammar.{Here, IsNumber, IsTruth, IsText, IsPos, IsType, IsList, IsParam, IsSig}
use Rattle.decl_spelling.specs.Grammar.{IsDescriptor}

-- a descriptor: where it starts and ends in the data section, and the type that it spells
pub record Block : Type 0 where
  pub start : ℕ
  pub end : ℕ
  pub tree : Tree

-- a typeOff, its position where it has one, and the type that it names
pub record Known : Type 0 where
  pub number : ℕ
  pub pos : Option SpelledPos
  pub tree : Tree

-- as it is spelled
abbrev pub number_of : Known → SpelledType
number_of x = record { number = x.number; pos = x.pos }

-- the number is the code of a predeclared type
abbrev pub NamesBasic : Sections → Known → Type 0
NamesBasic src x =
    (x.number < FIRST_DESCRIPTOR) × (basic : _) × (basic_of src.version x.number ≡ Some basic)
    × (x.tree ≡ predeclared basic)

-- it stands for the start of a block that ends before its holder
abbrev pub NamesBlock : List Block → ℕ → Known → Type 0
NamesBlock blocks holder x =
    (block : Block) × Contains blocks block × (x.number ≡ FIRST_DESCRIPTOR + block.start) × (block.end ≤ holder)
    × (x.tree ≡ block.tree)

abbrev pub Names : Sections → List Block → ℕ → Known → Type 0
Names src blocks holder x = NamesBasic src x ⊎ NamesBlock blocks holder x

abbrev pub AllNamed : Sections → List Block → ℕ → List Known → Type 0
AllNamed src blocks holder = All (Names src blocks holder)

-- no position was spelled before
abbrev pub nowhere : Named
nowhere = record { place = no_place; name = None }

-- the bytes of the data section from an offset on
abbrev pub here : Sections → ℕ → Here
here src start = record { left = drop start src.body; before = nowhere }

abbrev pub IsInstanceOf : SpelledShape Known → Type 0
IsInstanceOf (instance_of base args) = IsTrue (is_generic base.tree)
IsInstanceOf _ = Unit {0}

-- The bytes of the block spell its type, with the other blocks.
pub record Says (src : Sections) (blocks : List Block) (block : Block) : Type 0 where
  pub parts : SpelledShape Known
  pub after : Here
  pub stands : IsDescriptor src (here src block.start) (retype number_of parts) after
  pub ends : block.end + length after.left ≡ length src.body
  pub type : block.tree ≡ tree_of (meant (retype (λ x. x.tree) parts))
  pub named : AllNamed src blocks block.start (shape_types parts)
  pub generic : IsInstanceOf parts

-- what the block is spelled with
abbrev pub block_spelled : {src : Sections} {blocks : List Block} {block : Block} → Says src blocks block → Flat
block_spelled says = retype number_of says.parts

-- any two are the same, or share no byte
abbrev pub Apart : List Block → Type 0
Apart blocks = (a b : Block) → Contains blocks a → Contains blocks b → (a ≡ b) ⊎ ((a.end ≤ b.start) ⊎ (b.end ≤ a.start))

pub record Sound (src : Sections) (blocks : List Block) : Type 0 where
  pub each : (block : Block) → Contains blocks block → Says src blocks block
  pub apart : Apart blocks

-- ---- declarations, a case for each kind

abbrev pub KnownForm : Type 0
KnownForm = SpelledForm Known

abbrev pub numbers : List Known → List SpelledType
numbers xs = map number_of xs

abbrev pub same_pos : SpelledPos → SpelledPos
same_pos pos = pos

abbrev pub same_text : SpelledText → SpelledText
same_text x = x

abbrev pub numbered : SigOf SpelledPos SpelledText Known → Sig
numbered sig = sig_map same_pos same_text same_text number_of sig

abbrev pub numbered_receiver : ReceiverOf SpelledPos SpelledText Known → Receiver
numbered_receiver method = receiver_map same_pos same_text number_of method

abbrev pub AreParameters : List Known → Type 0
AreParameters tparams = (0 < length tparams) × All (λ x. IsTrue (is_parameter x.tree)) tparams

-- behind a position, at least one type parameter
abbrev pub IsTParams : Here → List Known → Here → Type 0
IsTParams a tparams b = IsList IsType a (numbers tparams) b × AreParameters tparams

pub record IsReceiver (src : Sections) (a : Here) (x : Receiver) (b : Here) : Type 0 where
  pub at_name : Here
  pub at_recv : Here
  pub at_sig : Here
  pub pos : IsPos src a x.pos at_name
  pub name : IsText src at_name x.name at_recv
  pub recv : IsParam src at_recv x.recv at_sig
  pub sig : IsSig src at_sig x.sig b

-- the methods of a defined type, or nothing where its underlying type is any or an interface
abbrev pub IsMethods : Sections → Bool → Here → List Receiver → Here → Type 0
IsMethods src true a methods b = IsList (IsReceiver src) a methods b
IsMethods src false a methods b = (methods ≡ []) × (a ≡ b)

-- the value of a constant, by how values of its type are spelled
abbrev pub IsSpelled : Sections → Spelling → Here → SpelledConst → Here → Type 0
IsSpelled src flag a value b = (x : Bool) × (value ≡ value_alone (truth x)) × IsTruth a x b
IsSpelled src offset a value b = (x : SpelledText) × (value ≡ text_value x) × IsText src a x b
IsSpelled src (number signed max) a value b =
    (x : ℤ) × (value ≡ value_alone (whole x)) × Begins (Whole signed max) a.left x b.left × (b.before ≡ a.before)

-- From version 2 on the number of its kind, doubled as a signed number is, stands before it.
abbrev pub IsKind : ℕ → Spelling → Here → Here → Type 0
IsKind version spelling a b = ((version ≡ 1) × (a ≡ b)) ⊎ ((version ≢ 1) × IsNumber a (2 * kind_number spelling) b)

pub record IsValue (src : Sections) (basics : Basics) (type : Tree) (a : Here) (value : SpelledConst) (b : Here) :
    Type 0 where
  pub basic : _
  pub spelling : Spelling
  pub at_value : Here
  pub its_basic : basic_type basics type ≡ Some basic
  pub its_spelling : kind_of basic ≡ spelled spelling
  pub kind : IsKind src.version spelling a at_value
  pub spelled_value : IsSpelled src spelling at_value value b

-- the type parameters of a declaration, if it has any
abbrev pub IsGenericList : Here → List Known → Here → Type 0
IsGenericList a [] b = a ≡ b
IsGenericList a (tparam ∷ tparams) b = IsTParams a (tparam ∷ tparams) b

-- the right side of a generic alias is no type parameter
abbrev pub IsRightSide : List Known → Tree → Type 0
IsRightSide [] tree = Unit {0}
IsRightSide (tparam ∷ tparams) tree = is_parameter tree ≡ false

-- with the stringOff of a constant's value that is a text
abbrev pub IsForm : Sections → Basics → Here → KnownForm → Option ℕ → Here → Type 0
IsForm src basics a (var_of pos type) text_offset b =
    (next : Here) × IsPos src a pos next × IsType next (number_of type) b × (text_offset ≡ None)
IsForm src basics a (function_of pos tparams sig) text_offset b =
    (at_tparams at_sig : Here) × IsPos src a pos at_tparams × IsGenericList at_tparams tparams at_sig
    × IsSig src at_sig (numbered sig) b × (text_offset ≡ None)
IsForm src basics a (constant_of pos type value) text_offset b =
    (at_type at_value : Here) × IsPos src a pos at_type × IsType at_type (number_of type) at_value
    × IsValue src basics type.tree at_value (record { offset = text_offset; value = value }) b
IsForm src basics a (defined_of pos tparams underlying methods) text_offset b =
    (at_tparams at_type at_methods : Here) × IsPos src a pos at_tparams × IsGenericList at_tparams tparams at_type
    × IsType at_type (number_of underlying) at_methods
    × IsTrue (is_underlying underlying.tree)
    × IsMethods src (has_methods underlying.tree) at_methods (map numbered_receiver methods) b
    × (text_offset ≡ None)
IsForm src basics a (renamed_of pos tparams type) text_offset b =
    (at_tparams at_type : Here) × IsPos src a pos at_tparams × IsGenericList at_tparams tparams at_type
    × IsType at_type (number_of type) b × IsRightSide tparams type.tree × (text_offset ≡ None)
IsForm src basics a (type_parameter_of pos implicit constraint) text_offset b =
    (at_flag at_type : Here) × IsPos src a pos at_flag × IsTruth at_flag implicit at_type
    × IsType at_type (number_of constraint) b × (IsTrue implicit → IsTrue (is_interface constraint.tree))
    × (text_offset ≡ None)

-- the kind of a declaration; a function, a defined type and an alias with type parameters have kinds of their own
abbrev pub generic_or : {X : Type 0} → List X → DeclTag → DeclTag → DeclTag
generic_or [] generic plain = plain
generic_or (x ∷ xs) generic plain = generic

abbrev pub kind_of_decl : KnownForm → DeclTag
kind_of_decl (var_of pos type) = Var
kind_of_decl (function_of pos tparams sig) = generic_or tparams GenericFunc Func
kind_of_decl (constant_of pos type value) = ConstTag
kind_of_decl (defined_of pos tparams underlying methods) = generic_or tparams GenericDefined Defined
kind_of_decl (renamed_of pos tparams type) = generic_or tparams GenericAlias Alias
kind_of_decl (type_parameter_of pos implicit constraint) = TypeParameter

-- At this offset a declaration is spelled: the byte of its kind, which the file's version has, and its parts, whose
-- types are spelled by descriptors that stand before it.
pub record SpellsDecl (src : Sections) (basics : Basics) (start : ℕ) (decl : Decl) : Type 0 where
  pub blocks : List Block
  pub sound : Sound src blocks
  pub parts : KnownForm
  pub value : Option ℕ
  pub rest : List ℕ
  pub after : Here
  pub kind : drop start src.body ≡ decl_tag_code (kind_of_decl parts) ∷ rest
  pub known : decl_tag_of src.version (decl_tag_code (kind_of_decl parts)) ≡ Some (kind_of_decl parts)
  pub stands : IsForm src basics (record { left = rest; before = nowhere }) parts value after
  pub named : AllNamed src blocks start (form_types parts)
  pub meant : decl ≡ form_meant (form_map same_pos same_text (λ x. x.tree) parts)

-- what the declaration is spelled with
abbrev pub spelled_with : {src : Sections} {basics : Basics} {start : ℕ} {decl : Decl}
    → SpellsDecl src basics start decl → SpelledDecl
spelled_with spells = record { form = form_map same_pos same_text number_of spells.parts; value = spells.value }
