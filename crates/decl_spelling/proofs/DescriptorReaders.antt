-- The readers of descriptors, a case for each kind.
use Rattle.std.proofs.Common.{◌≡◌, ℕ, ◌^◌, List, [], ◌∷◌, ◌++◌, Some, Ok, refl, sym, ap, subst, ◌∙◌}
use Rattle.std.specs.Prelude.{nat_lt}
use Rattle.std.specs.List.{flat_map}
use Rattle.std.proofs.lemmas.Bool.{ltb-true, lt-ltb}
use Rattle.code_tables.specs.declared.descriptors.TypeTag.{TypeTag}
use Rattle.code_tables.specs.declared.descriptors.TypeTag.TheVariants.{Defined, Pointer, Slice, Array, Chan, Map, Signature, Struct, Interface, TypeParameter, Instance, Union, Alias}
use Rattle.code_tables.specs.TypeTag.{type_tag_code}
use Rattle.wire_bytes.specs.declared.fault.ByteFault.TheVariants as faults
use Rattle.wire_bytes.specs.Reading.{place, ◌>>=◌}
use Rattle.wire_bytes.proofs.Spellings.{IsBytes}
use Rattle.type_terms.specs.declared.literals.Dir.{Dir}
use Rattle.type_terms.specs.Shapes.{named_of, parameter_of, alias_of, pointer_of, slice_of, array_of, chan_of, map_of, func_of, struct_of, interface_of, instance_of, union_of}
use Rattle.decl_spelling.specs.declared.mention.Demand.TheVariants.{Any, Base}
use Rattle.decl_spelling.specs.Sections.{Sections}
use Rattle.decl_spelling.specs.Codes.{type_tag_of, dir_of}
use Rattle.decl_spelling.specs.Spelled.{SpelledText, SpelledPath, SpelledType, without_pos, with_pos}
use Rattle.decl_spelling.specs.Reading.{number_at, text_at, path_at, pos_at, type_at, list_at, some_at}
use Rattle.decl_spelling.specs.Descriptors.{Flat, Sig, Method, Field, Term, sig_at, field_at, method_at, embedded_at, term_at, qualified_at, element_at, array_at, chan_at, map_at, func_at, struct_at, interface_at, instance_at, union_at, flat_by, flat_at}
use Rattle.decl_spelling.specs.Grammar.{Here, IsNumber, IsText, IsPath, IsPos, IsType, IsList, IsSig, IsField, IsMethod, IsEmbedded, IsTerm, IsQualified, dir_number, IsParts, tag_of, IsDescriptor}
use Rattle.decl_spelling.specs.Asks.{Ask, shape_asks}
use Rattle.decl_spelling.proofs.Readers.{Reads, nothing, one_reads, two_reads, judged_reads, tested_reads}
use Rattle.decl_spelling.proofs.ReaderSteps.{three_reads}
use Rattle.decl_spelling.proofs.BaseReaders.{number_reads, text_reads, path_reads, pos_reads, type_reads}
use Rattle.decl_spelling.proofs.ListReaders.{asking-append, list_reads, IsSome, some_reads}
use Rattle.decl_spelling.proofs.CodeLaws.{type_tag_of_takes, dir_takes, dir_again}
use Rattle.decl_spelling.proofs.FlatReaders.{any_type, sig_asks, sig_reads, field_asks, field_reads, fields_ask, method_asks, method_reads, methods_ask, embedded_reads, singles_ask, term_asks, term_reads, terms_ask, types_of_method}

-- the parts of a descriptor of this kind
abbrev pub IsOfTag : Sections → TypeTag → Here → Flat → Here → Type 0
IsOfTag src tag a x b = (tag_of x ≡ Some tag) × IsParts src a x b

-- ---- names

module _ (src : Sections) (make : SpelledText → SpelledPath → Flat) (tag : TypeTag) (its_tag : (name : SpelledText) (path : SpelledPath) → tag_of (make name path) ≡ Some tag) (no_asks : (name : SpelledText) (path : SpelledPath) → [] ≡ shape_asks (make name path))
    (join : (a : Here) (name : SpelledText) (path : SpelledPath) (b : Here) → IsQualified src a name path b → IsParts src a (make name path) b)
    (split : (a : Here) (x : Flat) (b : Here) → IsOfTag src tag a x b → (name : SpelledText) × (path : SpelledPath) × (x ≡ make name path) × IsQualified src a name path b) where
  qualified_reads : Reads (IsBytes src.strings) (qualified_at src make) (IsOfTag src tag) shape_asks
  unfolding qualified_at
  qualified_reads =
      two_reads (text_at src) (path_at src) (IsText src) (IsPath src) nothing nothing make (IsOfTag src tag) shape_asks (text_reads src) (path_reads src) no_asks
      (λ a name b path c first second. (its_tag name path, join a name path c (b, first, second)))
      (λ a x b w. let s = split a x b w in record { x = s.0; y = s.1; at_y = s.3.0; first = s.3.1; second = s.3.2; made = s.2 })

named_split : (src : Sections) (a : Here) (x : Flat) (b : Here) → IsOfTag src Defined a x b → (name : SpelledText) × (path : SpelledPath) × (x ≡ named_of name path) × IsQualified src a name path b
named_split src a (named_of name path) b w = (name, path, refl, w.1)
named_split src a x b w = absurd (let no = w.0 in cc)

parameter_split : (src : Sections) (a : Here) (x : Flat) (b : Here) → IsOfTag src TypeParameter a x b → (name : SpelledText) × (path : SpelledPath) × (x ≡ parameter_of name path) × IsQualified src a name path b
parameter_split src a (parameter_of name path) b w = (name, path, refl, w.1)
parameter_split src a x b w = absurd (let no = w.0 in cc)

alias_split : (src : Sections) (a : Here) (x : Flat) (b : Here) → IsOfTag src Alias a x b → (name : SpelledText) × (path : SpelledPath) × (x ≡ alias_of name path) × IsQualified src a name path b
alias_split src a (alias_of name path) b w = (name, path, refl, w.1)
alias_split src a x b w = absurd (let no = w.0 in cc)

-- ---- one type, and what is made of it

module _ (make : SpelledType → Flat) (T : Here → Flat → Here → Type 0) (its_asks : (type : SpelledType) → any_type type ≡ shape_asks (make type))
    (join : (a : Here) (type : SpelledType) (b : Here) → IsType a type b → T a (make type) b) (split : (a : Here) (x : Flat) (b : Here) → T a x b → (type : SpelledType) × (x ≡ make type) × IsType a type b) where
  made_reads : {Given : Type 0} → Reads Given (λ a. type_at Any a >>= λ type. Ok (make type.0, type.1)) T shape_asks
  made_reads =
      one_reads (type_at Any) IsType any_type make T shape_asks (type_reads Any) its_asks join (λ a x b w. let s = split a x b w in record { x = s.0; first = s.2; made = s.1 })

  element_reads : {Given : Type 0} → Reads Given (element_at make) T shape_asks
  unfolding element_at
  element_reads = made_reads

pointer_split : (src : Sections) (a : Here) (x : Flat) (b : Here) → IsOfTag src Pointer a x b → (type : SpelledType) × (x ≡ pointer_of type) × IsType a type b
pointer_split src a (pointer_of type) b w = (type, refl, w.1)
pointer_split src a x b w = absurd (let no = w.0 in cc)

slice_split : (src : Sections) (a : Here) (x : Flat) (b : Here) → IsOfTag src Slice a x b → (type : SpelledType) × (x ≡ slice_of type) × IsType a type b
slice_split src a (slice_of type) b w = (type, refl, w.1)
slice_split src a x b w = absurd (let no = w.0 in cc)

-- ---- arrays and channels

-- behind an array's length, or a channel's direction
abbrev Behind : (SpelledType → Flat) → Here → Flat → Here → Type 0
Behind make a x b = (type : SpelledType) × (x ≡ make type) × IsType a type b

behind_reads : {Given : Type 0} (make : SpelledType → Flat) → ((type : SpelledType) → any_type type ≡ shape_asks (make type)) → Reads Given (λ a. type_at Any a >>= λ type. Ok (make type.0, type.1)) (Behind make) shape_asks
behind_reads make its_asks = made_reads make (Behind make) its_asks (λ a type b number. (type, refl, number)) (λ a x b w. w)

array_split : (src : Sections) (a : Here) (x : Flat) (b : Here) → IsOfTag src Array a x b → (size : ℕ) × (type : SpelledType) × (x ≡ array_of size type) × IsParts src a (array_of size type) b
array_split src a (array_of size type) b w = (size, type, refl, w.1)
array_split src a x b w = absurd (let no = w.0 in cc)

array_reads : (src : Sections) → Reads (IsBytes src.strings) array_at (IsOfTag src Array) shape_asks
unfolding array_at
array_reads src =
    tested_reads number_at (λ a n. faults.Range (place a.spot) n) (λ n. nat_lt n (2 ^ 63)) (λ n a. type_at Any a >>= λ type. Ok (array_of n type.0, type.1)) IsNumber (λ n. Behind (array_of n)) shape_asks (IsOfTag src Array)
    number_reads (λ n. behind_reads (array_of n) (λ type. refl))
    (λ a n b x c number small w. subst (λ x. IsOfTag src Array a x c) (sym w.1) (refl, (b, number, ltb-true n (2 ^ 63) small, w.2)))
    (λ a x b w. let s = array_split src a x b w in record { x = s.0; next = s.3.0; first = s.3.1; holds = lt-ltb s.0 (2 ^ 63) s.3.2; second = (s.1, s.2, s.3.3) })

chan_split : (src : Sections) (a : Here) (x : Flat) (b : Here) → IsOfTag src Chan a x b → (dir : Dir) × (type : SpelledType) × (x ≡ chan_of dir type) × IsParts src a (chan_of dir type) b
chan_split src a (chan_of dir type) b w = (dir, type, refl, w.1)
chan_split src a x b w = absurd (let no = w.0 in cc)

chan_reads : (src : Sections) → Reads (IsBytes src.strings) chan_at (IsOfTag src Chan) shape_asks
unfolding chan_at
chan_reads src =
    judged_reads number_at (λ a n. faults.Tag (place a.spot) n) dir_of (λ n dir a. type_at Any a >>= λ type. Ok (chan_of dir type.0, type.1)) IsNumber (λ n dir. Behind (chan_of dir)) shape_asks (IsOfTag src Chan)
    number_reads (λ n dir. behind_reads (chan_of dir) (λ type. refl))
    (λ given a n b dir x c number known w. subst (λ x. IsOfTag src Chan a x c) (sym w.1) (refl, (b, subst (λ n. IsNumber a n b) (dir_takes n dir known) number, w.2)))
    (λ a x b w. let s = chan_split src a x b w in record { x = dir_number s.0; v = s.0; next = s.3.0; first = s.3.1; judged = dir_again s.0; second = (s.1, s.2, s.3.2) })

-- ---- the others

map_split : (src : Sections) (a : Here) (x : Flat) (b : Here) → IsOfTag src Map a x b → (key type : SpelledType) × (x ≡ map_of key type) × IsParts src a (map_of key type) b
map_split src a (map_of key type) b w = (key, type, refl, w.1)
map_split src a x b w = absurd (let no = w.0 in cc)

map_reads : (src : Sections) → Reads (IsBytes src.strings) map_at (IsOfTag src Map) shape_asks
unfolding map_at
map_reads src =
    two_reads (type_at Any) (type_at Any) IsType IsType any_type any_type map_of (IsOfTag src Map) shape_asks (type_reads Any) (type_reads Any) (λ key type. refl)
    (λ a key b type c first second. (refl, (b, first, second)))
    (λ a x b w. let s = map_split src a x b w in record { x = s.0; y = s.1; at_y = s.3.0; first = s.3.1; second = s.3.2; made = s.2 })

func_split : (src : Sections) (a : Here) (x : Flat) (b : Here) → IsOfTag src Signature a x b → (home : SpelledPath) × (sig : Sig) × (x ≡ func_of home sig) × IsParts src a (func_of home sig) b
func_split src a (func_of home sig) b w = (home, sig, refl, w.1)
func_split src a x b w = absurd (let no = w.0 in cc)

func_reads : (src : Sections) → Reads (IsBytes src.strings) (func_at src) (IsOfTag src Signature) shape_asks
unfolding func_at
func_reads src =
    two_reads (path_at src) (sig_at src) (IsPath src) (IsSig src) nothing sig_asks func_of (IsOfTag src Signature) shape_asks (path_reads src) (sig_reads src) (λ home sig. refl)
    (λ a home b sig c first second. (refl, (b, first, second)))
    (λ a x b w. let s = func_split src a x b w in record { x = s.0; y = s.1; at_y = s.3.0; first = s.3.1; second = s.3.2; made = s.2 })

struct_split : (src : Sections) (a : Here) (x : Flat) (b : Here) → IsOfTag src Struct a x b → (home : SpelledPath) × (fields : List Field) × (x ≡ struct_of home fields) × IsParts src a (struct_of home fields) b
struct_split src a (struct_of home fields) b w = (home, fields, refl, w.1)
struct_split src a x b w = absurd (let no = w.0 in cc)

struct_reads : (src : Sections) → Reads (IsBytes src.strings) (struct_at src) (IsOfTag src Struct) shape_asks
unfolding struct_at
struct_reads src =
    two_reads (path_at src) (list_at (field_at src)) (IsPath src) (IsList (IsField src)) nothing (flat_map field_asks) struct_of (IsOfTag src Struct) shape_asks
    (path_reads src) (list_reads (field_at src) (IsField src) field_asks (field_reads src)) (λ home fields. fields_ask fields)
    (λ a home b fields c first second. (refl, (b, first, second)))
    (λ a x b w. let s = struct_split src a x b w in record { x = s.0; y = s.1; at_y = s.3.0; first = s.3.1; second = s.3.2; made = s.2 })

interface_split : (src : Sections) (a : Here) (x : Flat) (b : Here) → IsOfTag src Interface a x b
    → (home : SpelledPath) × (embedded : List SpelledType) × (methods : List Method) × (x ≡ interface_of home embedded methods) × IsParts src a (interface_of home embedded methods) b
interface_split src a (interface_of home embedded methods) b w = (home, embedded, methods, refl, w.1)
interface_split src a x b w = absurd (let no = w.0 in cc)

interface_reads : (src : Sections) → Reads (IsBytes src.strings) (interface_at src) (IsOfTag src Interface) shape_asks
unfolding interface_at
interface_reads src =
    three_reads (path_at src) (list_at (embedded_at src)) (λ home b embedded. list_at (method_at src)) (IsPath src) (IsList (IsEmbedded src)) (λ home embedded. IsList (IsMethod src))
    nothing (flat_map any_type) (λ home embedded. flat_map method_asks) interface_of (IsOfTag src Interface) shape_asks
    (path_reads src) (list_reads (embedded_at src) (IsEmbedded src) any_type (embedded_reads src)) (λ home b embedded. list_reads (method_at src) (IsMethod src) method_asks (method_reads src))
    (λ home embedded methods. (λ i. singles_ask embedded i ++ methods_ask methods i) ∙ asking-append Any embedded (flat_map types_of_method methods))
    (λ a home b embedded c methods d first second third. (refl, (b, c, first, second, third)))
    (λ a x b w. let s = interface_split src a x b w in record { x = s.0; y = s.1; z = s.2; at_y = s.4.0; at_z = s.4.1; first = s.4.2; second = s.4.3; third = s.4.4; made = s.3 })

instance_split : (src : Sections) (a : Here) (x : Flat) (b : Here) → IsOfTag src Instance a x b → (base : SpelledType) × (args : List SpelledType) × (x ≡ instance_of base args) × IsParts src a (instance_of base args) b
instance_split src a (instance_of base args) b w = (base, args, refl, w.1)
instance_split src a x b w = absurd (let no = w.0 in cc)

instance_reads : (src : Sections) → Reads (IsBytes src.strings) (instance_at src) (IsOfTag src Instance) shape_asks
unfolding instance_at
instance_reads src =
    three_reads (pos_at src) (some_at (type_at Any)) (λ pos b args. type_at Base) (IsPos src) (IsSome (type_at Any) IsType any_type) (λ pos args. IsType)
    nothing (flat_map any_type) (λ pos args base. (base.number, Base) ∷ []) (λ pos args base. instance_of (with_pos pos base) args) (IsOfTag src Instance) shape_asks
    (pos_reads src) (some_reads (type_at Any) IsType any_type (type_reads Any)) (λ pos b args. type_reads Base)
    (λ pos args base. ap (λ (asks : List Ask). asks ++ (base.number, Base) ∷ []) (singles_ask args))
    (λ a pos b args c base d first second third. (refl, (pos, refl, b, c, first, second.0, second.1, third.0)))
    (λ a x b w. let s = instance_split src a x b w in record {
      x = s.3.0;
      y = s.1;
      z = without_pos s.0.number;
      at_y = s.3.2;
      at_z = s.3.3;
      first = s.3.4;
      second = (s.3.5, s.3.6);
      third = (s.3.7, refl);
      made = s.2 ∙ (λ i. instance_of (record { number = s.0.number; pos = s.3.1 i }) s.1);
    })

union_split : (src : Sections) (a : Here) (x : Flat) (b : Here) → IsOfTag src Union a x b → (terms : List Term) × (x ≡ union_of terms) × IsParts src a (union_of terms) b
union_split src a (union_of terms) b w = (terms, refl, w.1)
union_split src a x b w = absurd (let no = w.0 in cc)

union_reads : (src : Sections) → Reads (IsBytes src.strings) union_at (IsOfTag src Union) shape_asks
unfolding union_at
union_reads src =
    one_reads (some_at term_at) (IsSome term_at IsTerm term_asks) (flat_map term_asks) union_of (IsOfTag src Union) shape_asks (some_reads term_at IsTerm term_asks term_reads) terms_ask
    (λ a terms b some. (refl, some))
    (λ a x b w. let s = union_split src a x b w in record { x = s.0; first = s.2; made = s.1 })

-- ---- the whole descriptor

pub flat_by_reads : (src : Sections) (tag : TypeTag) → Reads (IsBytes src.strings) (flat_by src tag) (IsOfTag src tag) shape_asks
flat_by_reads src Defined = qualified_reads src named_of Defined (λ name path. refl) (λ name path. refl) (λ a name path b w. w) (named_split src)
flat_by_reads src Pointer = element_reads pointer_of (IsOfTag src Pointer) (λ type. refl) (λ a type b w. (refl, w)) (pointer_split src)
flat_by_reads src Slice = element_reads slice_of (IsOfTag src Slice) (λ type. refl) (λ a type b w. (refl, w)) (slice_split src)
flat_by_reads src Array = array_reads src
flat_by_reads src Chan = chan_reads src
flat_by_reads src Map = map_reads src
flat_by_reads src Signature = func_reads src
flat_by_reads src Struct = struct_reads src
flat_by_reads src Interface = interface_reads src
flat_by_reads src TypeParameter = qualified_reads src parameter_of TypeParameter (λ name path. refl) (λ name path. refl) (λ a name path b w. w) (parameter_split src)
flat_by_reads src Instance = instance_reads src
flat_by_reads src Union = union_reads src
flat_by_reads src Alias = qualified_reads src alias_of Alias (λ name path. refl) (λ name path. refl) (λ a name path b w. w) (alias_split src)

pub flat_reads : (src : Sections) → Reads (IsBytes src.strings) (flat_at src) (IsDescriptor src) shape_asks
unfolding flat_at
flat_reads src =
    judged_reads number_at (λ a n. faults.Tag (place a.spot) n) (type_tag_of src.version) (λ n tag. flat_by src tag) IsNumber (λ n tag. IsOfTag src tag) shape_asks (IsDescriptor src) number_reads (λ n tag. flat_by_reads src tag)
    (λ given a n b tag x c number known w.
    let its : n ≡ type_tag_code tag = sym (type_tag_of_takes src.version n tag known) in
    record { kind = tag; its_kind = w.0; at_parts = b; number = subst (λ n. IsNumber a n b) its number; known = subst (λ n. type_tag_of src.version n ≡ Some tag) its known; parts = w.1 })
    (λ a x b w. record { x = type_tag_code w.kind; v = w.kind; next = w.at_parts; first = w.number; judged = w.known; second = (w.its_kind, w.parts) })
