-- What the parts of a block that are read are spelled with.
use Rattle.std.specs.Prelude.{ℕ, List, map, Option, None}
use Rattle.type_terms.specs.Shapes.{named_of, parameter_of, alias_of, pointer_of, slice_of, array_of, chan_of, map_of}
use Rattle.type_terms.specs.Shapes.{func_of, struct_of, interface_of, instance_of, union_of}
use Rattle.type_terms.specs.Declarations.{var_of, function_of, constant_of, defined_of, renamed_of, type_parameter_of}
use Rattle.decl_spelling.specs.Spelled.{SpelledType, no_origin, without_pos, with_pos}
use Rattle.decl_spelling.specs.Descriptors as of
use Rattle.decl_spelling.specs.Declarations.{FlatForm, Receiver, Head, whole, of_type, of_constant}
use Rattle.block_reader.specs.declared.params.Param.{Param}
use Rattle.block_reader.specs.declared.params.Signature.{Signature}
use Rattle.block_reader.specs.declared.members.FieldParts.{FieldParts}
use Rattle.block_reader.specs.declared.members.MethodParts.{MethodParts}
use Rattle.block_reader.specs.declared.members.TermParts.{TermParts}
use Rattle.block_reader.specs.declared.descriptors.Flat.{Flat}
use Rattle.block_reader.specs.declared.descriptors.Flat.TheVariants.{Defined, TypeParameter, Alias, Pointer, Slice}
use Rattle.block_reader.specs.declared.descriptors.Flat.TheVariants.{Array, Chan, Map, Func, Struct, Interface}
use Rattle.block_reader.specs.declared.descriptors.Flat.TheVariants.{Instance, Union}
use Rattle.block_reader.specs.declared.declarations.ReceiverParts.{ReceiverParts}
use Rattle.block_reader.specs.declared.declarations.DeclParts.{DeclParts}
use Rattle.block_reader.specs.declared.declarations.DeclParts.TheVariants as decls
use Rattle.block_reader.specs.declared.declarations.DeclHead.{DeclHead}
use Rattle.block_reader.specs.declared.declarations.DeclHead.TheVariants as heads
use Rattle.block_reader.specs.Spelled.{text_spelled, path_spelled, pos_spelled, embedded_spelled}

abbrev pub types_spelled : List ℕ → List SpelledType
types_spelled numbers = map without_pos numbers

abbrev pub param_spelled : Param → of.Param
param_spelled x = record { pos = pos_spelled x.pos; name = text_spelled x.name; type = without_pos x.ty }

abbrev pub sig_spelled : Signature → of.Sig
sig_spelled x =
    record {
      params = map param_spelled x.params.items;
      results = map param_spelled x.results.items;
      variadic = x.variadic;
    }

-- full files have no origins
abbrev pub field_spelled : FieldParts → of.Field
field_spelled x =
    record {
      origin = no_origin;
      pos = pos_spelled x.pos;
      name = text_spelled x.name;
      type = without_pos x.ty;
      embedded = x.embedded;
      tag = text_spelled x.tag;
    }

abbrev pub method_spelled : MethodParts → of.Method
method_spelled x =
    record {
      origin = no_origin;
      pos = pos_spelled x.pos;
      name = text_spelled x.name;
      sig = sig_spelled x.signature;
    }

abbrev pub term_spelled : TermParts → of.Term
term_spelled x = record { tilde = x.tilde; type = without_pos x.ty }

abbrev pub flat_spelled : Flat → of.Flat
flat_spelled (Defined q) = named_of (text_spelled q.name) (path_spelled q.path)
flat_spelled (TypeParameter q) = parameter_of (text_spelled q.name) (path_spelled q.path)
flat_spelled (Alias q) = alias_of (text_spelled q.name) (path_spelled q.path)
flat_spelled (Pointer ty) = pointer_of (without_pos ty)
flat_spelled (Slice ty) = slice_of (without_pos ty)
flat_spelled (Array len ty) = array_of len (without_pos ty)
flat_spelled (Chan dir ty) = chan_of dir (without_pos ty)
flat_spelled (Map key ty) = map_of (without_pos key) (without_pos ty)
flat_spelled (Func home signature) = func_of (path_spelled home) (sig_spelled signature)
flat_spelled (Struct home fields) = struct_of (path_spelled home) (map field_spelled fields.items)
flat_spelled (Interface home embedded methods) =
    interface_of (path_spelled home) (map embedded_spelled embedded.items) (map method_spelled methods.items)
flat_spelled (Instance pos base arguments) =
    instance_of (with_pos (pos_spelled pos) (without_pos base)) (types_spelled arguments.items)
flat_spelled (Union terms) = union_of (map term_spelled terms.items)

-- ---- declarations

abbrev pub receiver_spelled : ReceiverParts → Receiver
receiver_spelled x =
    record {
      pos = pos_spelled x.pos;
      name = text_spelled x.name;
      recv = param_spelled x.recv;
      sig = sig_spelled x.signature;
    }

abbrev pub form_spelled : DeclParts → FlatForm
form_spelled (decls.Var pos ty) = var_of (pos_spelled pos) (without_pos ty)
form_spelled (decls.Func pos tparams signature) =
    function_of (pos_spelled pos) (types_spelled tparams.items) (sig_spelled signature)
form_spelled (decls.Constant pos ty value) = constant_of (pos_spelled pos) (without_pos ty) value.value
form_spelled (decls.Defined pos tparams underlying methods) =
    defined_of (pos_spelled pos) (types_spelled tparams.items) (without_pos underlying)
    (map receiver_spelled methods.items)
form_spelled (decls.Alias pos tparams ty) =
    renamed_of (pos_spelled pos) (types_spelled tparams.items) (without_pos ty)
form_spelled (decls.Parameter pos implicit constraint) =
    type_parameter_of (pos_spelled pos) implicit (without_pos constraint)

-- the stringOff of a constant's value that is a text
abbrev pub value_spelled : DeclParts → Option ℕ
value_spelled (decls.Constant pos ty value) = value.offset
value_spelled _ = None

abbrev pub head_spelled : DeclHead → Head
head_spelled (heads.Whole parts) = whole (form_spelled parts)
head_spelled (heads.Defined pos tparams underlying) =
    of_type (pos_spelled pos) (types_spelled tparams.items) (without_pos underlying)
head_spelled (heads.Constant pos ty at) = of_constant (pos_spelled pos) (without_pos ty) at
