-- Descriptors of types: what stands in a block behind its tag. A type that stands in another one is its typeOff.
use Rattle.std.specs.Prelude.{◌^◌, List, [], ◌∷◌, Bool, false, Ok, nat_lt}
use Rattle.code_tables.specs.declared.descriptors.TypeTag.{TypeTag}
use Rattle.code_tables.specs.declared.descriptors.TypeTag.TheVariants.{Defined, Pointer, Slice, Array, Chan, Map}
use Rattle.code_tables.specs.declared.descriptors.TypeTag.TheVariants.{Signature, Struct, Interface, TypeParameter}
use Rattle.code_tables.specs.declared.descriptors.TypeTag.TheVariants.{Instance, Union, Alias}
use Rattle.wire_bytes.specs.declared.fault.ByteFault.TheVariants as faults
use Rattle.wire_bytes.specs.Reading.{place, ◌>>=◌}
use Rattle.type_terms.specs.Shapes.{ParamOf, SigOf, FieldOf, MethodOf, TermOf, named_of, parameter_of}
use Rattle.type_terms.specs.Shapes.{alias_of, pointer_of, slice_of, array_of, chan_of, map_of, func_of, struct_of}
use Rattle.type_terms.specs.Shapes.{interface_of, instance_of, union_of}
use Rattle.decl_spelling.specs.declared.mention.Demand.TheVariants.{Any, Base}
use Rattle.decl_spelling.specs.Sections.{Sections}
use Rattle.decl_spelling.specs.Spelled.{SpelledText, SpelledPath, SpelledPos, SpelledType, SpelledShape, with_pos}
use Rattle.decl_spelling.specs.Spelled.{no_origin}
use Rattle.decl_spelling.specs.Codes.{type_tag_of, dir_of}
use Rattle.decl_spelling.specs.Reading.{Reader, ask, or_stop, number_at, truth_at, text_at, path_at, pos_at, type_at}
use Rattle.decl_spelling.specs.Reading.{list_at, some_at}

-- what a descriptor is spelled with, with types by their typeOffs
abbrev pub Flat : Type 0
Flat = SpelledShape SpelledType

abbrev pub Param : Type 0
Param = ParamOf SpelledPos SpelledText SpelledType

abbrev pub Sig : Type 0
Sig = SigOf SpelledPos SpelledText SpelledType

abbrev pub Field : Type 0
Field = FieldOf SpelledPos SpelledText SpelledPath SpelledType

abbrev pub Method : Type 0
Method = MethodOf SpelledPos SpelledText SpelledPath SpelledType

abbrev pub Term : Type 0
Term = TermOf SpelledType

-- a position, a name and a type
unfoldable pub param_at : Sections → Reader Param
param_at src a = do
  pos ← pos_at src a
  name ← text_at src pos.1
  type ← type_at Any name.1
  Ok (record { pos = pos.0; name = name.0; type = type.0 }, type.1)

-- A flag stands only where there is a parameter.
abbrev pub variadic_at : List Param → Reader Bool
variadic_at [] a = Ok (false, a)
variadic_at (param ∷ params) a = truth_at a

-- the parameters, the results, and whether the last parameter is variadic
unfoldable pub sig_at : Sections → Reader Sig
sig_at src a = do
  params ← list_at (param_at src) a
  results ← list_at (param_at src) params.1
  variadic ← variadic_at params.0 results.1
  Ok (record { params = params.0; results = results.0; variadic = variadic.0 }, variadic.1)

unfoldable pub field_at : Sections → Reader Field
field_at src a = do
  pos ← pos_at src a
  name ← text_at src pos.1
  type ← type_at Any name.1
  embedded ← truth_at type.1
  tag ← text_at src embedded.1
  Ok (
    record { origin = no_origin; pos = pos.0; name = name.0; type = type.0; embedded = embedded.0; tag = tag.0 },
    tag.1,
  )

unfoldable pub method_at : Sections → Reader Method
method_at src a = do
  pos ← pos_at src a
  name ← text_at src pos.1
  sig ← sig_at src name.1
  Ok (record { origin = no_origin; pos = pos.0; name = name.0; sig = sig.0 }, sig.1)

unfoldable pub embedded_at : Sections → Reader SpelledType
embedded_at src a = do
  pos ← pos_at src a
  type ← type_at Any pos.1
  Ok (with_pos pos.0 type.0, type.1)

unfoldable pub term_at : Reader Term
term_at a = do
  tilde ← truth_at a
  type ← type_at Any tilde.1
  Ok (record { tilde = tilde.0; type = type.0 }, type.1)

-- ---- a case for each tag

-- a name and the path of its package
unfoldable pub qualified_at : Sections → (SpelledText → SpelledPath → Flat) → Reader Flat
qualified_at src make a = do
  name ← text_at src a
  path ← path_at src name.1
  Ok (make name.0 path.0, path.1)

unfoldable pub element_at : (SpelledType → Flat) → Reader Flat
element_at make a = do
  type ← type_at Any a
  Ok (make type.0, type.1)

-- a length has 63 bits
unfoldable pub array_at : Reader Flat
array_at a = do
  size ← number_at a
  small ← ask a (nat_lt size.0 (2 ^ 63)) (faults.Range (place a.spot) size.0)
  type ← type_at Any size.1
  Ok (array_of size.0 type.0, type.1)

unfoldable pub chan_at : Reader Flat
chan_at a = do
  number ← number_at a
  dir ← or_stop a (faults.Tag (place a.spot) number.0) (dir_of number.0)
  type ← type_at Any number.1
  Ok (chan_of dir type.0, type.1)

unfoldable pub map_at : Reader Flat
map_at a = do
  key ← type_at Any a
  type ← type_at Any key.1
  Ok (map_of key.0 type.0, type.1)

unfoldable pub func_at : Sections → Reader Flat
func_at src a = do
  home ← path_at src a
  sig ← sig_at src home.1
  Ok (func_of home.0 sig.0, sig.1)

unfoldable pub struct_at : Sections → Reader Flat
struct_at src a = do
  home ← path_at src a
  fields ← list_at (field_at src) home.1
  Ok (struct_of home.0 fields.0, fields.1)

unfoldable pub interface_at : Sections → Reader Flat
interface_at src a = do
  home ← path_at src a
  embedded ← list_at (embedded_at src) home.1
  methods ← list_at (method_at src) embedded.1
  Ok (interface_of home.0 embedded.0 methods.0, methods.1)

-- the base has the position
unfoldable pub instance_at : Sections → Reader Flat
instance_at src a = do
  pos ← pos_at src a
  args ← some_at (type_at Any) pos.1
  base ← type_at Base args.1
  Ok (instance_of (with_pos pos.0 base.0) args.0, base.1)

unfoldable pub union_at : Reader Flat
union_at a = do
  terms ← some_at term_at a
  Ok (union_of terms.0, terms.1)

abbrev pub flat_by : Sections → TypeTag → Reader Flat
flat_by src Defined a = qualified_at src named_of a
flat_by src Pointer a = element_at pointer_of a
flat_by src Slice a = element_at slice_of a
flat_by src Array a = array_at a
flat_by src Chan a = chan_at a
flat_by src Map a = map_at a
flat_by src Signature a = func_at src a
flat_by src Struct a = struct_at src a
flat_by src Interface a = interface_at src a
flat_by src TypeParameter a = qualified_at src parameter_of a
flat_by src Instance a = instance_at src a
flat_by src Union a = union_at a
flat_by src Alias a = qualified_at src alias_of a

-- a descriptor
unfoldable pub flat_at : Sections → Reader Flat
flat_at src a = do
  number ← number_at a
  tag ← or_stop a (faults.Tag (place a.spot) number.0) (type_tag_of src.version number.0)
  flat_by src tag number.1
