-- What a block of a file holds, part by part in the order of writing: a case a kind of descriptor or declaration.
use Rattle.std.specs.Prelude.{ℕ, ◌*◌, ℤ, List, [], ◌∷◌, ◌++◌, Bool, true, false, length, Option, Some, None}
use Rattle.std.specs.List.{flat_map}
use Rattle.go_values.specs.declared.positions.Pos.{Pos}
use Rattle.go_values.specs.declared.positions.Pos.TheVariants.{Nowhere}
use Rattle.go_values.specs.declared.constants.Const.{Const}
use Rattle.go_values.specs.declared.constants.Const.TheVariants.{Bool as truth, Int as whole, Str as chars}
use Rattle.code_tables.specs.declared.predeclared.Basic.{Basic}
use Rattle.code_tables.specs.declared.descriptors.TypeTag.{TypeTag}
use Rattle.code_tables.specs.declared.descriptors.TypeTag.TheVariants as tags
use Rattle.code_tables.specs.declared.declarations.DeclTag.{DeclTag}
use Rattle.code_tables.specs.declared.declarations.DeclTag.TheVariants as kinds
use Rattle.code_tables.specs.TypeTag.{type_tag_code}
use Rattle.type_terms.specs.Shapes.{ParamOf, SigOf, FieldOf, MethodOf, TermOf, predeclared_of, named_of, parameter_of}
use Rattle.type_terms.specs.Shapes.{alias_of, pointer_of, slice_of, array_of, chan_of, map_of, func_of, struct_of}
use Rattle.type_terms.specs.Shapes.{interface_of, instance_of, union_of}
use Rattle.type_terms.specs.Trees.{Text, Tree, Level}
use Rattle.type_terms.specs.Declarations.{ReceiverOf, var_of, function_of, constant_of, defined_of, renamed_of}
use Rattle.type_terms.specs.Declarations.{type_parameter_of, Decl}
use Rattle.decl_spelling.specs.Sections.{Basics}
use Rattle.decl_spelling.specs.Constants.{Kind, spelled, floating, none, kind_of, kind_number, basic_type}
use Rattle.decl_spelling.specs.Constants.{Spelling, flag, offset, number}
use Rattle.decl_spelling.specs.Declarations.{has_methods}
use Rattle.decl_spelling.specs.Grammar.{dir_number}
use Rattle.decl_spelling.specs.Spelling.{generic_or}

-- A path stands for a package. Types are named by their numbers, texts and paths by their offsets, and a position is
-- spelled after the one before it. A whole number is signed or not, and its type's values have at most so many bytes.
pub data Item : Type 0 where
  a_number : ℕ → Item
  a_flag : Bool → Item
  a_text : Text → Item
  a_path : Text → Item
  a_position : Pos → Item
  a_type : Tree → Item
  a_whole : Bool → ℕ → ℤ → Item

-- behind their count
abbrev pub list_items : {X : Type 0} → (X → List Item) → List X → List Item
list_items items xs = a_number (length xs) ∷ flat_map items xs

abbrev pub type_items : Tree → List Item
type_items type = a_type type ∷ []

abbrev pub param_items : ParamOf Pos Text Tree → List Item
param_items x = a_position x.pos ∷ a_text x.name ∷ a_type x.type ∷ []

-- A flag stands only where there is a parameter.
abbrev pub variadic_items : List (ParamOf Pos Text Tree) → Bool → List Item
variadic_items [] variadic = []
variadic_items (param ∷ params) variadic = a_flag variadic ∷ []

abbrev pub sig_items : SigOf Pos Text Tree → List Item
sig_items sig =
    list_items param_items sig.params
    ++ (list_items param_items sig.results ++ variadic_items sig.params sig.variadic)

abbrev pub field_items : FieldOf Pos Text Text Tree → List Item
field_items x = a_position x.pos ∷ a_text x.name ∷ a_type x.type ∷ a_flag x.embedded ∷ a_text x.tag ∷ []

abbrev pub method_items : MethodOf Pos Text Text Tree → List Item
method_items x = a_position x.pos ∷ a_text x.name ∷ sig_items x.sig

-- An embedded type has no position.
abbrev pub embedded_items : Tree → List Item
embedded_items type = a_position Nowhere ∷ a_type type ∷ []

abbrev pub term_items : TermOf Tree → List Item
term_items x = a_flag x.tilde ∷ a_type x.type ∷ []

-- ---- descriptors

abbrev pub tagged : TypeTag → List Item → List Item
tagged tag items = a_number (type_tag_code tag) ∷ items

-- An instance has no position.
abbrev pub level_items : Level → List Item
level_items (predeclared_of basic) = []
level_items (named_of name path) = tagged tags.Defined (a_text name ∷ a_path path ∷ [])
level_items (parameter_of name path) = tagged tags.TypeParameter (a_text name ∷ a_path path ∷ [])
level_items (alias_of name path) = tagged tags.Alias (a_text name ∷ a_path path ∷ [])
level_items (pointer_of type) = tagged tags.Pointer (a_type type ∷ [])
level_items (slice_of type) = tagged tags.Slice (a_type type ∷ [])
level_items (array_of size type) = tagged tags.Array (a_number size ∷ a_type type ∷ [])
level_items (chan_of dir type) = tagged tags.Chan (a_number (dir_number dir) ∷ a_type type ∷ [])
level_items (map_of key type) = tagged tags.Map (a_type key ∷ a_type type ∷ [])
level_items (func_of home sig) = tagged tags.Signature (a_path home ∷ sig_items sig)
level_items (struct_of home fields) = tagged tags.Struct (a_path home ∷ list_items field_items fields)
level_items (interface_of home embedded methods) =
    tagged tags.Interface (a_path home ∷ (list_items embedded_items embedded ++ list_items method_items methods))
level_items (instance_of base args) =
    tagged tags.Instance (a_position Nowhere ∷ (list_items type_items args ++ a_type base ∷ []))
level_items (union_of terms) = tagged tags.Union (list_items term_items terms)

-- ---- declarations

-- the type parameters of a declaration, if it has any
abbrev pub generic_items : List Tree → List Item
generic_items [] = []
generic_items (tparam ∷ tparams) = list_items type_items (tparam ∷ tparams)

abbrev pub receiver_items : ReceiverOf Pos Text Tree → List Item
receiver_items x = a_position x.pos ∷ a_text x.name ∷ (param_items x.recv ++ sig_items x.sig)

-- The methods are left out where the underlying type is any or an interface.
abbrev pub methods_items : Bool → List (ReceiverOf Pos Text Tree) → List Item
methods_items true methods = list_items receiver_items methods
methods_items false methods = []

abbrev pub constant_kind : Option Basic → Kind
constant_kind (Some basic) = kind_of basic
constant_kind None = none

abbrev pub spelled_items : Spelling → Const → List Item
spelled_items flag (truth x) = a_flag x ∷ []
spelled_items offset (chars x) = a_text x ∷ []
spelled_items (number signed max) (whole x) = a_whole signed max x ∷ []
spelled_items spelling value = []

-- the number of the value's kind, and the value, which is spelled by its type
abbrev pub value_items : Kind → Const → List Item
value_items (spelled spelling) value = a_number (2 * kind_number spelling) ∷ spelled_items spelling value
value_items floating value = []
value_items none value = []

abbrev pub decl_items : Basics → Decl → List Item
decl_items basics (var_of pos type) = a_position pos ∷ a_type type ∷ []
decl_items basics (function_of pos tparams sig) = a_position pos ∷ (generic_items tparams ++ sig_items sig)
decl_items basics (constant_of pos type value) =
    a_position pos ∷ a_type type ∷ value_items (constant_kind (basic_type basics type)) value
decl_items basics (defined_of pos tparams underlying methods) =
    a_position pos ∷ (generic_items tparams ++ a_type underlying ∷ methods_items (has_methods underlying) methods)
decl_items basics (renamed_of pos tparams type) = a_position pos ∷ (generic_items tparams ++ a_type type ∷ [])
decl_items basics (type_parameter_of pos implicit constraint) =
    a_position pos ∷ a_flag implicit ∷ a_type constraint ∷ []

abbrev pub decl_kind : Decl → DeclTag
decl_kind (var_of pos type) = kinds.Var
decl_kind (function_of pos tparams sig) = generic_or tparams kinds.GenericFunc kinds.Func
decl_kind (constant_of pos type value) = kinds.Const
decl_kind (defined_of pos tparams underlying methods) = generic_or tparams kinds.GenericDefined kinds.Defined
decl_kind (renamed_of pos tparams type) = generic_or tparams kinds.GenericAlias kinds.Alias
decl_kind (type_parameter_of pos implicit constraint) = kinds.TypeParameter
