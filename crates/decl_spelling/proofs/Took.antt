-- What is said of a reader of a block's own bytes.
use Rattle.std.proofs.Common.{◌≡◌, ℕ, ◌+◌, ◌^◌, ◌<◌, ◌≤◌, List, [], ◌∷◌, ◌++◌, length, map, refl, Ok}
use Rattle.wire_bytes.proofs.Spellings.{IsBytes}
use Rattle.code_tables.specs.declared.declarations.DeclTag.{DeclTag}
use Rattle.code_tables.specs.declared.declarations.DeclTag.TheVariants.{Var, Func, GenericFunc, Const as ConstTag, Defined, GenericDefined, Alias, GenericAlias, TypeParameter}
use Rattle.code_tables.specs.DeclTag.{decl_tag_code}
use Rattle.std.specs.Prelude.{Some}
use Rattle.wire_bytes.specs.Whole.{IsGreatestLength}
use Rattle.type_terms.specs.Trees.{Tree}
use Rattle.type_terms.specs.Shapes.{sig_types}
use Rattle.type_terms.specs.Declarations.{var_of, function_of, constant_of, defined_of, renamed_of, type_parameter_of}
use Rattle.decl_spelling.specs.declared.mention.Mention.{Mention}
use Rattle.decl_spelling.specs.declared.mention.Demand.{Demand}
use Rattle.decl_spelling.specs.declared.mention.Demand.TheVariants.{Any, Parameter, Underlying, Base, NoParameter, Interface}
use Rattle.decl_spelling.specs.Sections.{Sections}
use Rattle.decl_spelling.specs.Spelled.{SpelledType, SpelledConst}
use Rattle.decl_spelling.specs.Codes.{decl_tag_of}
use Rattle.decl_spelling.specs.Reading.{Ahead, Reader, Stopped}
use Rattle.decl_spelling.specs.Asks.{Ask, unplaced, ask_of, asking}
use Rattle.decl_spelling.specs.Descent.{meets}
use Rattle.decl_spelling.specs.Constants.{Spelling, flag, offset, number}
use Rattle.decl_spelling.specs.Declarations.{Head, whole, of_type, of_constant, constraint_demand}
use Rattle.decl_spelling.specs.Grammar.{Here, IsTruth, IsPos, IsType, IsList, IsSig}
use Rattle.decl_spelling.specs.Spelling.{IsKind, IsSpelled, generic_or}

-- without the place of a flag a demand is met by the same types
pub meets_unplaced : (asked : Demand) (tree : Tree) → meets (unplaced asked) tree ≡ meets asked tree
meets_unplaced Any tree = refl
meets_unplaced Parameter tree = refl
meets_unplaced Underlying tree = refl
meets_unplaced Base tree = refl
meets_unplaced NoParameter tree = refl
meets_unplaced (Interface at) tree = refl

-- what is left of a block, in a section that goes on behind it
abbrev pub seen_from : Ahead → List ℕ → Here
seen_from a tail = record { left = a.spot.left ++ tail; before = a.before }

-- what readers need: bytes, and a place before of 32 bits
pub record Fits (a : Ahead) : Type 0 where
  pub bytes : IsBytes a.spot.left
  pub line : a.before.place.line < 2 ^ 32
  pub column : a.before.place.column < 2 ^ 32

-- From a to b these mentions were added. Each took a byte, and the block has the same end.
pub record Went (a : Ahead) (asks : List Ask) (b : Ahead) : Type 0 where
  pub added : List Mention
  pub mentions : b.mentions ≡ a.mentions ++ added
  pub asked : map ask_of added ≡ asks
  pub frugal : length added + length b.spot.left ≤ length a.spot.left
  pub same_end : b.spot.end ≡ a.spot.end
  pub fits : Fits b

-- x was read from a to b, and stands there whatever follows
pub record Took {X : Type 0} (Stands : Here → X → Here → Type 0) (asks : X → List Ask) (a : Ahead) (x : X) (b : Ahead) : Type 0 where
  pub stands : (tail : List ℕ) → Stands (seen_from a tail) x (seen_from b tail)
  pub went : Went a (asks x) b

-- Before a fault, too, each mention took a byte.
abbrev pub Few : Ahead → Stopped → Type 0
Few a s = length s.mentions ≤ length a.mentions + length a.spot.left

-- what stands there is read, in a window that reaches its end
abbrev pub Again : {X : Type 0} → Reader X → Ahead → X → List ℕ → Here → Type 0
Again p a x tail after = (b : Ahead) × (p a ≡ Ok (x, b)) × (after ≡ seen_from b tail)

-- ---- heads of declarations

abbrev pub AreTParams : Here → List SpelledType → Here → Type 0
AreTParams a [] b = a ≡ b
AreTParams a (t ∷ ts) b = IsList IsType a (t ∷ ts) b

abbrev pub IsHeadParts : Sections → Here → Head → Here → Type 0
IsHeadParts src a (whole (var_of pos type)) b = (next : Here) × IsPos src a pos next × IsType next type b
IsHeadParts src a (whole (function_of pos tparams sig)) b = (at_tparams at_sig : Here) × IsPos src a pos at_tparams × AreTParams at_tparams tparams at_sig × IsSig src at_sig sig b
IsHeadParts src a (whole (constant_of pos type value)) b = ⊥
IsHeadParts src a (whole (defined_of pos tparams underlying methods)) b = ⊥
IsHeadParts src a (whole (renamed_of pos tparams type)) b = (at_tparams at_type : Here) × IsPos src a pos at_tparams × AreTParams at_tparams tparams at_type × IsType at_type type b
IsHeadParts src a (whole (type_parameter_of pos implicit constraint)) b = (at_flag at_type : Here) × IsPos src a pos at_flag × IsTruth at_flag implicit at_type × IsType at_type constraint b
IsHeadParts src a (of_type pos tparams type) b = (at_tparams at_type : Here) × IsPos src a pos at_tparams × AreTParams at_tparams tparams at_type × IsType at_type type b
IsHeadParts src a (of_constant pos type at) b = (next : Here) × IsPos src a pos next × IsType next type b

abbrev pub kind_of_head : Head → DeclTag
kind_of_head (whole (var_of pos type)) = Var
kind_of_head (whole (function_of pos tparams sig)) = generic_or tparams GenericFunc Func
kind_of_head (whole (constant_of pos type value)) = ConstTag
kind_of_head (whole (defined_of pos tparams underlying methods)) = generic_or tparams GenericDefined Defined
kind_of_head (whole (renamed_of pos tparams type)) = generic_or tparams GenericAlias Alias
kind_of_head (whole (type_parameter_of pos implicit constraint)) = TypeParameter
kind_of_head (of_type pos tparams type) = generic_or tparams GenericDefined Defined
kind_of_head (of_constant pos type at) = ConstTag

-- the byte of its kind, which the file's version has, and its parts up to where types decide what follows
pub record IsHead (src : Sections) (a : Here) (x : Head) (b : Here) : Type 0 where
  pub rest : List ℕ
  pub kind : a.left ≡ decl_tag_code (kind_of_head x) ∷ rest
  pub known : decl_tag_of src.version (decl_tag_code (kind_of_head x)) ≡ Some (kind_of_head x)
  pub parts : IsHeadParts src (record { left = rest; before = a.before }) x b

abbrev pub right_demand : List SpelledType → Demand
right_demand [] = Any
right_demand (t ∷ ts) = NoParameter

abbrev pub head_asks : Head → List Ask
head_asks (whole (var_of pos type)) = (type.number, Any) ∷ []
head_asks (whole (function_of pos tparams sig)) = asking Parameter tparams ++ asking Any (sig_types sig)
head_asks (whole (constant_of pos type value)) = (type.number, Any) ∷ []
head_asks (whole (defined_of pos tparams underlying methods)) = asking Parameter tparams ++ (underlying.number, Underlying) ∷ []
head_asks (whole (renamed_of pos tparams type)) = asking Parameter tparams ++ (type.number, right_demand tparams) ∷ []
head_asks (whole (type_parameter_of pos implicit constraint)) = (constraint.number, constraint_demand implicit 0) ∷ []
head_asks (of_type pos tparams type) = asking Parameter tparams ++ (type.number, Underlying) ∷ []
head_asks (of_constant pos type at) = (type.number, Any) ∷ []

-- a head without the place of its typeOff
abbrev pub unplaced_head : Head → Head
unplaced_head (whole form) = whole form
unplaced_head (of_type pos tparams type) = of_type pos tparams type
unplaced_head (of_constant pos type at) = of_constant pos type 0

-- ---- values of constants

abbrev pub IsSpelling : Spelling → Type 0
IsSpelling flag = Unit {0}
IsSpelling offset = Unit {0}
IsSpelling (number signed max) = IsGreatestLength max

abbrev pub IsValueOf : Sections → Spelling → Here → SpelledConst → Here → Type 0
IsValueOf src spelling a value b = (at_value : Here) × IsKind src.version spelling a at_value × IsSpelled src spelling at_value value b
