-- A declaration, as it is read.
use Rattle.std.specs.Prelude.{◌≡◌, ℕ, List, [], length, Bool, true, false, Result, Ok, Err, Option, None}
use Rattle.code_tables.specs.declared.declarations.DeclTag.{DeclTag}
use Rattle.code_tables.specs.declared.declarations.DeclTag.TheVariants.{Var, Func, GenericFunc, Const as ConstTag}
use Rattle.code_tables.specs.declared.declarations.DeclTag.TheVariants.{Defined, GenericDefined, Alias, GenericAlias}
use Rattle.code_tables.specs.declared.declarations.DeclTag.TheVariants.{TypeParameter}
use Rattle.code_tables.specs.declared.predeclared.Basic.TheVariants.{Any as any_type}
use Rattle.wire_bytes.specs.declared.fault.ByteFault.{ByteFault}
use Rattle.wire_bytes.specs.declared.fault.ByteFault.TheVariants as faults
use Rattle.wire_bytes.specs.Reading.{place, ◌>>=◌, byte_at}
use Rattle.type_terms.specs.Trees.{Tree, predeclared, interface}
use Rattle.type_terms.specs.Declarations.{ReceiverOf, var_of, function_of, constant_of, defined_of, renamed_of}
use Rattle.type_terms.specs.Declarations.{type_parameter_of, form_map, Decl}
use Rattle.decl_spelling.specs.declared.mention.Demand.{Demand}
use Rattle.decl_spelling.specs.declared.mention.Demand.TheVariants.{Any as any, Parameter, Underlying, NoParameter}
use Rattle.decl_spelling.specs.declared.mention.Demand.TheVariants.{Interface}
use Rattle.decl_spelling.specs.Sections.{Sections, Basics, window}
use Rattle.decl_spelling.specs.Spelled.{SpelledText, SpelledPos, SpelledType, SpelledForm, SpelledDecl}
use Rattle.decl_spelling.specs.Spelled.{form_meant}
use Rattle.decl_spelling.specs.Codes.{decl_tag_of}
use Rattle.decl_spelling.specs.Reading.{Ahead, Reader, Stopped, start, or_stop, plain, truth_at, text_at, pos_at}
use Rattle.decl_spelling.specs.Reading.{type_at, list_at, some_at}
use Rattle.decl_spelling.specs.Descriptors.{param_at, sig_at}
use Rattle.decl_spelling.specs.Tables.{Table, type_spelled}
use Rattle.decl_spelling.specs.Descent.{resolve_all, block_at}
use Rattle.decl_spelling.specs.Constants.{basic_type, spelling_at, value_at}

-- what a declaration is spelled with, with its types by their typeOffs
abbrev pub FlatForm : Type 0
FlatForm = SpelledForm SpelledType

abbrev pub Receiver : Type 0
Receiver = ReceiverOf SpelledPos SpelledText SpelledType

-- A declaration up to where its types decide what follows: nothing more; the methods of a defined type, if its
-- underlying type isn't an interface; the value of a constant, by its type, whose typeOff stands at a place.
pub data Head : Type 0 where
  whole : FlatForm → Head
  of_type : SpelledPos → List SpelledType → SpelledType → Head
  of_constant : SpelledPos → SpelledType → ℕ → Head

-- a position, and what is made of it and of what follows
abbrev pub tparams_at : Reader (List SpelledType)
tparams_at a = some_at (type_at Parameter) a

unfoldable pub var_at : Sections → Reader Head
var_at src a = do
  pos ← pos_at src a
  type ← type_at any pos.1
  Ok (whole (var_of pos.0 type.0), type.1)

unfoldable pub func_decl_at : Sections → Reader Head
func_decl_at src a = do
  pos ← pos_at src a
  sig ← sig_at src pos.1
  Ok (whole (function_of pos.0 [] sig.0), sig.1)

unfoldable pub generic_func_at : Sections → Reader Head
generic_func_at src a = do
  pos ← pos_at src a
  tparams ← tparams_at pos.1
  sig ← sig_at src tparams.1
  Ok (whole (function_of pos.0 tparams.0 sig.0), sig.1)

unfoldable pub constant_at : Sections → Reader Head
constant_at src a = do
  pos ← pos_at src a
  type ← type_at any pos.1
  Ok (of_constant pos.0 type.0 (place (pos.1).spot), type.1)

unfoldable pub defined_at : Sections → Reader Head
defined_at src a = do
  pos ← pos_at src a
  type ← type_at Underlying pos.1
  Ok (of_type pos.0 [] type.0, type.1)

unfoldable pub generic_defined_at : Sections → Reader Head
generic_defined_at src a = do
  pos ← pos_at src a
  tparams ← tparams_at pos.1
  type ← type_at Underlying tparams.1
  Ok (of_type pos.0 tparams.0 type.0, type.1)

unfoldable pub alias_at : Sections → Reader Head
alias_at src a = do
  pos ← pos_at src a
  type ← type_at any pos.1
  Ok (whole (renamed_of pos.0 [] type.0), type.1)

unfoldable pub generic_alias_at : Sections → Reader Head
generic_alias_at src a = do
  pos ← pos_at src a
  tparams ← tparams_at pos.1
  type ← type_at NoParameter tparams.1
  Ok (whole (renamed_of pos.0 tparams.0 type.0), type.1)

-- the constraint of a type parameter; an implicit one is an interface
abbrev pub constraint_demand : Bool → ℕ → Demand
constraint_demand true at = Interface at
constraint_demand false at = any

unfoldable pub parameter_at : Sections → Reader Head
parameter_at src a = do
  pos ← pos_at src a
  implicit ← truth_at pos.1
  type ← type_at (constraint_demand implicit.0 (place (pos.1).spot)) implicit.1
  Ok (whole (type_parameter_of pos.0 implicit.0 type.0), type.1)

abbrev pub head_by : Sections → DeclTag → Reader Head
head_by src Var a = var_at src a
head_by src Func a = func_decl_at src a
head_by src GenericFunc a = generic_func_at src a
head_by src ConstTag a = constant_at src a
head_by src Defined a = defined_at src a
head_by src GenericDefined a = generic_defined_at src a
head_by src Alias a = alias_at src a
head_by src GenericAlias a = generic_alias_at src a
head_by src TypeParameter a = parameter_at src a

unfoldable pub head_at : Sections → Reader Head
head_at src a = do
  byte ← plain a (byte_at a.spot)
  tag ← or_stop a (faults.Tag (place a.spot) byte.0) (decl_tag_of src.version byte.0)
  head_by src tag byte.1

-- a method of a defined type
unfoldable pub receiver_at : Sections → Reader Receiver
receiver_at src a = do
  pos ← pos_at src a
  name ← text_at src pos.1
  recv ← param_at src name.1
  sig ← sig_at src recv.1
  Ok (record { pos = pos.0; name = name.0; recv = recv.0; sig = sig.0 }, sig.1)

-- ---- the parts together

-- the types that a part of the declaration names are read before what follows it
abbrev pub resolved : {X : Type 0} → Sections → ℕ → Result (X × Ahead) Stopped → Table
    → Result ((X × Ahead) × Table) ByteFault
resolved src offset (Ok x) done = do
  known ← resolve_all src (block_at src offset) offset (x.1).mentions done
  Ok ((x.0, record { spot = (x.1).spot; before = (x.1).before; mentions = [] }), known)
resolved src offset (Err stopped) done = do
  known ← resolve_all src (block_at src offset) offset stopped.mentions done
  Err stopped.fault

-- any and interfaces have no methods but their own
abbrev pub has_methods : Tree → Bool
has_methods (interface home embedded own) = false
has_methods (predeclared any_type) = false
has_methods _ = true

-- a declaration that was read, the stringOff of a constant's value that is a text, its end in the file, and the
-- descriptors that it reaches
pub record Read : Type 0 where
  pub form : FlatForm
  pub value : Option ℕ
  pub end : ℕ
  pub table : Table

abbrev pub read : FlatForm → Option ℕ → Ahead → Table → Result Read ByteFault
read form value a done = Ok (record { form = form; value = value; end = place a.spot; table = done })

abbrev pub methods_of : SpelledPos → List SpelledType → SpelledType → (List Receiver × Ahead) × Table
    → Result Read ByteFault
methods_of pos tparams underlying x = read (defined_of pos tparams underlying (x.0).0) None (x.0).1 x.1

abbrev pub after_type : Sections → ℕ → SpelledPos → List SpelledType → SpelledType → Ahead → Table → Bool
    → Result Read ByteFault
after_type src offset pos tparams underlying a done true =
    resolved src offset (list_at (receiver_at src) a) done >>= methods_of pos tparams underlying
after_type src offset pos tparams underlying a done false = read (defined_of pos tparams underlying []) None a done

abbrev pub fault_alone : {X : Type 0} → Result X Stopped → Result X ByteFault
fault_alone (Ok x) = Ok x
fault_alone (Err stopped) = Err stopped.fault

abbrev pub after_constant : Sections → Basics → SpelledPos → SpelledType → ℕ → Ahead → Table → Result Read ByteFault
after_constant src basics pos type at a done = do
  spelling ← spelling_at at (basic_type basics (type_spelled src.version done type))
  value ← fault_alone (value_at src spelling a)
  read (constant_of pos type (value.0).value) (value.0).offset value.1 done

abbrev pub after_head : Sections → Basics → ℕ → Head → Ahead → Table → Result Read ByteFault
after_head src basics offset (whole form) a done = read form None a done
after_head src basics offset (of_type pos tparams underlying) a done =
    after_type src offset pos tparams underlying a done (has_methods (type_spelled src.version done underlying))
after_head src basics offset (of_constant pos type at) a done = after_constant src basics pos type at a done

-- the declaration at an offset
unfoldable pub read_at : Sections → Basics → ℕ → Result Read ByteFault
read_at src basics offset = do
  head ← resolved src offset (head_at src (start (window src offset (length src.body)))) []
  after_head src basics offset (head.0).0 (head.0).1 head.1

-- what was read
abbrev pub decl_of : Sections → Read → Decl
decl_of src x = form_meant (form_map (λ pos. pos) (λ text. text) (type_spelled src.version x.table) x.form)

-- what it is spelled with
abbrev pub spelled_of : Read → SpelledDecl
spelled_of x = record { form = x.form; value = x.value }

-- the declaration that is spelled at an offset, or the first fault
abbrev pub decl_at : Sections → Basics → ℕ → Result Decl ByteFault
decl_at src basics offset = read_at src basics offset >>= λ x. Ok (decl_of src x)

-- the first fault of the bytes that stand at an offset
abbrev pub FirstFault : Sections → Basics → ℕ → ByteFault → Type 0
FirstFault src basics offset fault = decl_at src basics offset ≡ Err fault
