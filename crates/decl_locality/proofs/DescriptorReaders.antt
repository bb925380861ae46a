-- The readers of descriptors, by their steps.
use Rattle.std.proofs.Common.{ℕ, ◌^◌, false, List, [], ◌∷◌, Ok, refl}
use Rattle.std.specs.Prelude.{nat_lt}
use Rattle.wire_bytes.specs.declared.fault.ByteFault.{ByteFault}
use Rattle.wire_bytes.specs.declared.fault.ByteFault.TheVariants as faults
use Rattle.wire_bytes.specs.Reading.{◌>>=◌}
use Rattle.wire_bytes.specs.Uvarint.{uvarint_at}
use Rattle.wire_bytes.proofs.NumbersLocal.{uvarint_local, uvarint_some}
use Rattle.code_tables.specs.declared.descriptors.TypeTag.{TypeTag}
use Rattle.code_tables.specs.declared.descriptors.TypeTag.TheVariants.{Defined, Pointer, Slice, Array, Chan, Map, Signature, Struct, Interface, TypeParameter, Instance, Union, Alias}
use Rattle.type_terms.specs.Shapes.{named_of, parameter_of, alias_of, pointer_of, slice_of, array_of, chan_of, map_of, func_of, struct_of, interface_of, instance_of, union_of}
use Rattle.decl_spelling.specs.declared.mention.Demand.TheVariants.{Any, Base}
use Rattle.decl_spelling.specs.Sections.{Sections}
use Rattle.decl_spelling.specs.Spelled.{SpelledText, SpelledPath, SpelledType, with_pos, no_origin}
use Rattle.decl_spelling.specs.Codes.{type_tag_of, dir_of}
use Rattle.decl_spelling.specs.Reading.{truth_at, text_at, path_at, pos_at, type_at, list_at, some_at}
use Rattle.decl_spelling.specs.Descriptors.{Flat, Param, param_at, variadic_at, sig_at, field_at, method_at, embedded_at, term_at, qualified_at, element_at, array_at, chan_at, map_at, func_at, struct_at, interface_at, instance_at, union_at, flat_by, flat_at}
use Rattle.decl_locality.specs.LocalReaders.{IsLocal}
use Rattle.decl_locality.proofs.InsideLemmas.{done_local, then_local}
use Rattle.decl_locality.proofs.BaseReaders.{judged_then, asked_then, truth_local, text_local, path_local, pos_local, type_local, list_local, some_local}

pub any_local : IsLocal (type_at Any)
any_local = type_local Any (λ from end. tt)

-- ---- parts

pub param_local : (src : Sections) → IsLocal (param_at src)
unfolding param_at
param_local src =
    then_local (pos_at src) (λ pos a. text_at src a >>= λ name. type_at Any name.1 >>= λ type. Ok (record { pos = pos; name = name.0; type = type.0 }, type.1)) (pos_local src)
    (λ pos. then_local (text_at src) (λ name a. type_at Any a >>= λ type. Ok (record { pos = pos; name = name; type = type.0 }, type.1)) (text_local src)
    (λ name. then_local (type_at Any) (λ type a. Ok (record { pos = pos; name = name; type = type }, a)) any_local (λ type. done_local _)))

variadic_local : (params : List Param) → IsLocal (variadic_at params)
variadic_local [] = done_local false
variadic_local (param ∷ params) = truth_local

pub sig_local : (src : Sections) → IsLocal (sig_at src)
unfolding sig_at
sig_local src =
    let params_local = list_local (param_at src) (param_local src) in
    then_local (list_at (param_at src)) (λ params a. list_at (param_at src) a >>= λ results. variadic_at params results.1 >>= λ variadic. Ok (record { params = params; results = results.0; variadic = variadic.0 }, variadic.1)) params_local
    (λ params. then_local (list_at (param_at src)) (λ results a. variadic_at params a >>= λ variadic. Ok (record { params = params; results = results; variadic = variadic.0 }, variadic.1)) params_local
    (λ results. then_local (variadic_at params) (λ variadic a. Ok (record { params = params; results = results; variadic = variadic }, a)) (variadic_local params) (λ variadic. done_local _)))

field_local : (src : Sections) → IsLocal (field_at src)
unfolding field_at
field_local src =
    then_local (pos_at src)
    (λ pos a. text_at src a >>= λ name. type_at Any name.1 >>= λ type. truth_at type.1 >>= λ embedded. text_at src embedded.1 >>= λ tag.
    Ok (record { origin = no_origin; pos = pos; name = name.0; type = type.0; embedded = embedded.0; tag = tag.0 }, tag.1)) (pos_local src)
    (λ pos. then_local (text_at src)
    (λ name a. type_at Any a >>= λ type. truth_at type.1 >>= λ embedded. text_at src embedded.1 >>= λ tag.
    Ok (record { origin = no_origin; pos = pos; name = name; type = type.0; embedded = embedded.0; tag = tag.0 }, tag.1)) (text_local src)
    (λ name. then_local (type_at Any)
    (λ type a. truth_at a >>= λ embedded. text_at src embedded.1 >>= λ tag. Ok (record { origin = no_origin; pos = pos; name = name; type = type; embedded = embedded.0; tag = tag.0 }, tag.1)) any_local
    (λ type. then_local truth_at (λ embedded a. text_at src a >>= λ tag. Ok (record { origin = no_origin; pos = pos; name = name; type = type; embedded = embedded; tag = tag.0 }, tag.1)) truth_local
    (λ embedded. then_local (text_at src) (λ tag a. Ok (record { origin = no_origin; pos = pos; name = name; type = type; embedded = embedded; tag = tag }, a)) (text_local src) (λ tag. done_local _)))))

method_local : (src : Sections) → IsLocal (method_at src)
unfolding method_at
method_local src =
    then_local (pos_at src) (λ pos a. text_at src a >>= λ name. sig_at src name.1 >>= λ sig. Ok (record { origin = no_origin; pos = pos; name = name.0; sig = sig.0 }, sig.1)) (pos_local src)
    (λ pos. then_local (text_at src) (λ name a. sig_at src a >>= λ sig. Ok (record { origin = no_origin; pos = pos; name = name; sig = sig.0 }, sig.1)) (text_local src)
    (λ name. then_local (sig_at src) (λ sig a. Ok (record { origin = no_origin; pos = pos; name = name; sig = sig }, a)) (sig_local src) (λ sig. done_local _)))

embedded_local : (src : Sections) → IsLocal (embedded_at src)
unfolding embedded_at
embedded_local src =
    then_local (pos_at src) (λ pos a. type_at Any a >>= λ type. Ok (with_pos pos type.0, type.1)) (pos_local src)
    (λ pos. then_local (type_at Any) (λ type a. Ok (with_pos pos type, a)) any_local (λ type. done_local _))

term_local : IsLocal term_at
unfolding term_at
term_local =
    then_local truth_at (λ tilde a. type_at Any a >>= λ type. Ok (record { tilde = tilde; type = type.0 }, type.1)) truth_local
    (λ tilde. then_local (type_at Any) (λ type a. Ok (record { tilde = tilde; type = type }, a)) any_local (λ type. done_local _))

-- ---- a case for each tag

qualified_local : (src : Sections) (make : SpelledText → SpelledPath → Flat) → IsLocal (qualified_at src make)
unfolding qualified_at
qualified_local src make =
    then_local (text_at src) (λ name a. path_at src a >>= λ path. Ok (make name path.0, path.1)) (text_local src)
    (λ name. then_local (path_at src) (λ path a. Ok (make name path, a)) (path_local src) (λ path. done_local _))

element_local : (make : SpelledType → Flat) → IsLocal (element_at make)
unfolding element_at
element_local make = then_local (type_at Any) (λ type a. Ok (make type, a)) any_local (λ type. done_local _)

abbrev range_at : ℕ → ℕ → ByteFault
range_at start n = faults.Range start n

abbrev tag_at : ℕ → ℕ → ByteFault
tag_at start n = faults.Tag start n

array_local : IsLocal array_at
unfolding array_at
array_local =
    asked_then uvarint_at range_at (λ start n. (refl, refl)) uvarint_local uvarint_some (λ n. nat_lt n (2 ^ 63)) (λ size a. type_at Any a >>= λ type. Ok (array_of size type.0, type.1))
    (λ size. then_local (type_at Any) (λ type a. Ok (array_of size type, a)) any_local (λ type. done_local _))

chan_local : IsLocal chan_at
unfolding chan_at
chan_local =
    judged_then uvarint_at tag_at (λ start n. (refl, refl)) uvarint_local uvarint_some dir_of (λ n dir a. type_at Any a >>= λ type. Ok (chan_of dir type.0, type.1))
    (λ n dir. then_local (type_at Any) (λ type a. Ok (chan_of dir type, a)) any_local (λ type. done_local _))

map_local : IsLocal map_at
unfolding map_at
map_local =
    then_local (type_at Any) (λ key a. type_at Any a >>= λ type. Ok (map_of key type.0, type.1)) any_local
    (λ key. then_local (type_at Any) (λ type a. Ok (map_of key type, a)) any_local (λ type. done_local _))

func_local : (src : Sections) → IsLocal (func_at src)
unfolding func_at
func_local src =
    then_local (path_at src) (λ home a. sig_at src a >>= λ sig. Ok (func_of home sig.0, sig.1)) (path_local src)
    (λ home. then_local (sig_at src) (λ sig a. Ok (func_of home sig, a)) (sig_local src) (λ sig. done_local _))

struct_local : (src : Sections) → IsLocal (struct_at src)
unfolding struct_at
struct_local src =
    then_local (path_at src) (λ home a. list_at (field_at src) a >>= λ fields. Ok (struct_of home fields.0, fields.1)) (path_local src)
    (λ home. then_local (list_at (field_at src)) (λ fields a. Ok (struct_of home fields, a)) (list_local (field_at src) (field_local src)) (λ fields. done_local _))

interface_local : (src : Sections) → IsLocal (interface_at src)
unfolding interface_at
interface_local src =
    then_local (path_at src) (λ home a. list_at (embedded_at src) a >>= λ embedded. list_at (method_at src) embedded.1 >>= λ methods. Ok (interface_of home embedded.0 methods.0, methods.1)) (path_local src)
    (λ home. then_local (list_at (embedded_at src)) (λ embedded a. list_at (method_at src) a >>= λ methods. Ok (interface_of home embedded methods.0, methods.1)) (list_local (embedded_at src) (embedded_local src))
    (λ embedded. then_local (list_at (method_at src)) (λ methods a. Ok (interface_of home embedded methods, a)) (list_local (method_at src) (method_local src)) (λ methods. done_local _)))

instance_local : (src : Sections) → IsLocal (instance_at src)
unfolding instance_at
instance_local src =
    then_local (pos_at src) (λ pos a. some_at (type_at Any) a >>= λ args. type_at Base args.1 >>= λ base. Ok (instance_of (with_pos pos base.0) args.0, base.1)) (pos_local src)
    (λ pos. then_local (some_at (type_at Any)) (λ args a. type_at Base a >>= λ base. Ok (instance_of (with_pos pos base.0) args, base.1)) (some_local (type_at Any) any_local)
    (λ args. then_local (type_at Base) (λ base a. Ok (instance_of (with_pos pos base) args, a)) (type_local Base (λ from end. tt)) (λ base. done_local _)))

union_local : IsLocal union_at
unfolding union_at
union_local = then_local (some_at term_at) (λ terms a. Ok (union_of terms, a)) (some_local term_at term_local) (λ terms. done_local _)

by_local : (src : Sections) (tag : TypeTag) → IsLocal (flat_by src tag)
by_local src Defined = qualified_local src named_of
by_local src Pointer = element_local pointer_of
by_local src Slice = element_local slice_of
by_local src Array = array_local
by_local src Chan = chan_local
by_local src Map = map_local
by_local src Signature = func_local src
by_local src Struct = struct_local src
by_local src Interface = interface_local src
by_local src TypeParameter = qualified_local src parameter_of
by_local src Instance = instance_local src
by_local src Union = union_local
by_local src Alias = qualified_local src alias_of

pub flat_local : (src : Sections) → IsLocal (flat_at src)
unfolding flat_at
flat_local src =
    judged_then uvarint_at tag_at (λ start n. (refl, refl)) uvarint_local uvarint_some (type_tag_of src.version) (λ n tag. flat_by src tag) (λ n tag. by_local src tag)
