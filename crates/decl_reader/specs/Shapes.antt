-- What the parts that are read mean, with types still by their typeOffs.
use Rattle.std.specs.Prelude.{ℕ, [], map}
use Rattle.go_values.specs.declared.positions.Pos.{Pos}
use Rattle.type_terms.specs.Trees.{Text}
use Rattle.type_terms.specs.Shapes.{ParamOf, SigOf, OriginOf, FieldOf, MethodOf, TermOf, Shape as ShapeOf, named_of}
use Rattle.type_terms.specs.Shapes.{parameter_of, alias_of, pointer_of, slice_of}
use Rattle.type_terms.specs.Shapes.{array_of, chan_of, map_of, func_of, struct_of, interface_of, instance_of, union_of}
use Rattle.block_reader.specs.declared.params.Param.{Param}
use Rattle.block_reader.specs.declared.params.Signature.{Signature}
use Rattle.block_reader.specs.declared.members.FieldParts.{FieldParts}
use Rattle.block_reader.specs.declared.members.MethodParts.{MethodParts}
use Rattle.block_reader.specs.declared.members.TermParts.{TermParts}
use Rattle.block_reader.specs.declared.spelled.Embedded.{Embedded}
use Rattle.block_reader.specs.declared.descriptors.Flat.{Flat}
use Rattle.block_reader.specs.declared.descriptors.Flat.TheVariants.{Defined, TypeParameter, Alias, Pointer, Slice}
use Rattle.block_reader.specs.declared.descriptors.Flat.TheVariants.{Array, Chan, Map, Func, Struct, Interface}
use Rattle.block_reader.specs.declared.descriptors.Flat.TheVariants.{Instance, Union}

abbrev pub Shape : Type 0
Shape = ShapeOf Pos Text Text ℕ

abbrev pub ParamShape : Type 0
ParamShape = ParamOf Pos Text ℕ

abbrev pub Sig : Type 0
Sig = SigOf Pos Text ℕ

-- literals of full files stand in no other package
abbrev pub no_origin : OriginOf Text Text
no_origin = record { text = []; path = [] }

abbrev pub FieldShape : Type 0
FieldShape = FieldOf Pos Text Text ℕ

abbrev pub MethodShape : Type 0
MethodShape = MethodOf Pos Text Text ℕ

abbrev pub TermShape : Type 0
TermShape = TermOf ℕ

abbrev pub param_shape : Param → ParamShape
param_shape x = record { pos = x.pos.pos; name = x.name.text; type = x.ty }

abbrev pub sig_shape : Signature → Sig
sig_shape x =
    record { params = map param_shape x.params.items; results = map param_shape x.results.items; variadic = x.variadic }

abbrev pub field_shape : FieldParts → FieldShape
field_shape x =
    record {
      origin = no_origin;
      pos = x.pos.pos;
      name = x.name.text;
      type = x.ty;
      embedded = x.embedded;
      tag = x.tag.text;
    }

abbrev pub method_shape : MethodParts → MethodShape
method_shape x =
    record { origin = no_origin; pos = x.pos.pos; name = x.name.text; sig = sig_shape x.signature }

abbrev pub term_shape : TermParts → TermShape
term_shape x = record { tilde = x.tilde; type = x.ty }

abbrev pub element_type : Embedded → ℕ
element_type x = x.ty

abbrev pub flat_shape : Flat → Shape
flat_shape (Defined q) = named_of q.name.text q.path.path
flat_shape (TypeParameter q) = parameter_of q.name.text q.path.path
flat_shape (Alias q) = alias_of q.name.text q.path.path
flat_shape (Pointer ty) = pointer_of ty
flat_shape (Slice ty) = slice_of ty
flat_shape (Array len ty) = array_of len ty
flat_shape (Chan dir ty) = chan_of dir ty
flat_shape (Map key ty) = map_of key ty
flat_shape (Func home signature) = func_of home.path (sig_shape signature)
flat_shape (Struct home fields) = struct_of home.path (map field_shape fields.items)
flat_shape (Interface home embedded methods) =
    interface_of home.path (map element_type embedded.items) (map method_shape methods.items)
flat_shape (Instance pos base arguments) = instance_of base arguments.items
flat_shape (Union terms) = union_of (map term_shape terms.items)
