-- The readers of declarations, up to where types decide what follows, and of methods.
use Rattle.std.proofs.Common.{◌≡◌, ℕ, ◌≤◌, Bool, true, false, List, [], ◌∷◌, ◌++◌, length, Some, Ok, refl, sym, ap, subst, ◌∙◌, arith}
use Rattle.std.specs.List.{flat_map}
use Rattle.std.proofs.lemmas.List.Concat.{flat_map_single}
use Rattle.code_tables.specs.declared.declarations.DeclTag.{DeclTag}
use Rattle.code_tables.specs.declared.declarations.DeclTag.TheVariants.{Var, Func, GenericFunc, Const as ConstTag, Defined, GenericDefined, Alias, GenericAlias, TypeParameter}
use Rattle.code_tables.specs.DeclTag.{decl_tag_code}
use Rattle.wire_bytes.specs.declared.fault.ByteFault.TheVariants as faults
use Rattle.wire_bytes.specs.Reading.{place, ◌>>=◌, byte_at}
use Rattle.wire_bytes.specs.Begins.{Begins}
use Rattle.wire_bytes.proofs.Spellings.{IsBytes}
use Rattle.wire_bytes.proofs.CursorLemmas.{byte_at_takes, byte_at_again}
use Rattle.type_terms.specs.Declarations.{var_of, function_of, constant_of, defined_of, renamed_of, type_parameter_of, receiver_types}
use Rattle.decl_spelling.specs.declared.mention.Demand.{Demand}
use Rattle.decl_spelling.specs.declared.mention.Demand.TheVariants.{Any, Parameter, Underlying, NoParameter}
use Rattle.decl_spelling.specs.Sections.{Sections}
use Rattle.decl_spelling.specs.Codes.{decl_tag_of}
use Rattle.decl_spelling.specs.Spelled.{SpelledText, SpelledPos, SpelledType}
use Rattle.decl_spelling.specs.Reading.{Ahead, Reader, or_stop, plain, truth_at, text_at, pos_at, type_at, list_at}
use Rattle.decl_spelling.specs.Descriptors.{Param, Sig, param_at, sig_at}
use Rattle.decl_spelling.specs.Declarations.{Receiver, Head, whole, of_type, of_constant, tparams_at, var_at, func_decl_at, generic_func_at, constant_at, defined_at, generic_defined_at, alias_at, generic_alias_at, constraint_demand, parameter_at, head_by, head_at, receiver_at}
use Rattle.decl_spelling.specs.Grammar.{Here, IsTruth, IsText, IsPos, IsType, IsList, IsParam, IsSig}
use Rattle.decl_spelling.specs.Spelling.{IsReceiver}
use Rattle.decl_spelling.specs.Asks.{Ask, asking, unplaced}
use Rattle.decl_spelling.proofs.Took.{seen_from, Fits, Again, IsHeadParts, kind_of_head, IsHead, head_asks, unplaced_head}
use Rattle.decl_spelling.proofs.Readers.{went_nowhere, went_on, Answered, Reads, nothing, ask_reads, then_answers, judged_answers, onward_answers, two_reads}
use Rattle.decl_spelling.proofs.ReaderSteps.{three_reads, three_reads_where, four_reads}
use Rattle.decl_spelling.proofs.BaseReaders.{plain_reads, truth_reads, text_reads, pos_reads, type_reads}
use Rattle.decl_spelling.proofs.ListReaders.{IsSome, some_reads, list_reads, asking-flat}
use Rattle.decl_spelling.proofs.CodeLaws.{decl_tag_of_takes}
use Rattle.decl_spelling.proofs.FlatReaders.{any_type, param_asks, param_reads, sig_asks, sig_reads}

-- the parts of a head of this kind
abbrev pub IsHeadOf : Sections → DeclTag → Here → Head → Here → Type 0
IsHeadOf src Var a x b = (pos : SpelledPos) × (type : SpelledType) × (x ≡ whole (var_of pos type)) × IsHeadParts src a (whole (var_of pos type)) b
IsHeadOf src Func a x b = (pos : SpelledPos) × (sig : Sig) × (x ≡ whole (function_of pos [] sig)) × IsHeadParts src a (whole (function_of pos [] sig)) b
IsHeadOf src GenericFunc a x b = (pos : SpelledPos) × (t : SpelledType) × (ts : List SpelledType) × (sig : Sig) × (x ≡ whole (function_of pos (t ∷ ts) sig)) × IsHeadParts src a (whole (function_of pos (t ∷ ts) sig)) b
IsHeadOf src ConstTag a x b = (pos : SpelledPos) × (type : SpelledType) × (at : ℕ) × (x ≡ of_constant pos type at) × IsHeadParts src a (of_constant pos type at) b
IsHeadOf src Defined a x b = (pos : SpelledPos) × (type : SpelledType) × (x ≡ of_type pos [] type) × IsHeadParts src a (of_type pos [] type) b
IsHeadOf src GenericDefined a x b = (pos : SpelledPos) × (t : SpelledType) × (ts : List SpelledType) × (type : SpelledType) × (x ≡ of_type pos (t ∷ ts) type) × IsHeadParts src a (of_type pos (t ∷ ts) type) b
IsHeadOf src Alias a x b = (pos : SpelledPos) × (type : SpelledType) × (x ≡ whole (renamed_of pos [] type)) × IsHeadParts src a (whole (renamed_of pos [] type)) b
IsHeadOf src GenericAlias a x b = (pos : SpelledPos) × (t : SpelledType) × (ts : List SpelledType) × (type : SpelledType) × (x ≡ whole (renamed_of pos (t ∷ ts) type)) × IsHeadParts src a (whole (renamed_of pos (t ∷ ts) type)) b
IsHeadOf src TypeParameter a x b = (pos : SpelledPos) × (implicit : Bool) × (constraint : SpelledType) × (x ≡ whole (type_parameter_of pos implicit constraint)) × IsHeadParts src a (whole (type_parameter_of pos implicit constraint)) b

-- its kind, and its parts
abbrev KindAndParts : Sections → DeclTag → Here → Here → Head → Type 0
KindAndParts src tag a b x = (kind_of_head x ≡ tag) × IsHeadParts src a x b

kind_and_parts : (src : Sections) (tag : DeclTag) (a : Here) (x : Head) (b : Here) → IsHeadOf src tag a x b → KindAndParts src tag a b x
kind_and_parts src Var a x b w = subst (KindAndParts src Var a b) (sym w.2) (refl, w.3)
kind_and_parts src Func a x b w = subst (KindAndParts src Func a b) (sym w.2) (refl, w.3)
kind_and_parts src GenericFunc a x b w = subst (KindAndParts src GenericFunc a b) (sym w.4) (refl, w.5)
kind_and_parts src ConstTag a x b w = subst (KindAndParts src ConstTag a b) (sym w.3) (refl, w.4)
kind_and_parts src Defined a x b w = subst (KindAndParts src Defined a b) (sym w.2) (refl, w.3)
kind_and_parts src GenericDefined a x b w = subst (KindAndParts src GenericDefined a b) (sym w.4) (refl, w.5)
kind_and_parts src Alias a x b w = subst (KindAndParts src Alias a b) (sym w.2) (refl, w.3)
kind_and_parts src GenericAlias a x b w = subst (KindAndParts src GenericAlias a b) (sym w.4) (refl, w.5)
kind_and_parts src TypeParameter a x b w = subst (KindAndParts src TypeParameter a b) (sym w.3) (refl, w.4)

of_its_kind : (src : Sections) (a : Here) (x : Head) (b : Here) → IsHeadParts src a x b → IsHeadOf src (kind_of_head x) a x b
of_its_kind src a (whole (var_of pos type)) b w = (pos, type, refl, w)
of_its_kind src a (whole (function_of pos [] sig)) b w = (pos, sig, refl, w)
of_its_kind src a (whole (function_of pos (t ∷ ts) sig)) b w = (pos, t, ts, sig, refl, w)
of_its_kind src a (whole (constant_of pos type value)) b w = absurd w
of_its_kind src a (whole (defined_of pos tparams underlying methods)) b w = absurd w
of_its_kind src a (whole (renamed_of pos [] type)) b w = (pos, type, refl, w)
of_its_kind src a (whole (renamed_of pos (t ∷ ts) type)) b w = (pos, t, ts, type, refl, w)
of_its_kind src a (whole (type_parameter_of pos implicit constraint)) b w = (pos, implicit, constraint, refl, w)
of_its_kind src a (of_type pos [] type) b w = (pos, type, refl, w)
of_its_kind src a (of_type pos (t ∷ ts) type) b w = (pos, t, ts, type, refl, w)
of_its_kind src a (of_constant pos type at) b w = (pos, type, at, refl, w)

-- ---- without type parameters

var_reads : (src : Sections) → Reads (IsBytes src.strings) (var_at src) (IsHeadOf src Var) head_asks
unfolding var_at
var_reads src =
    two_reads (pos_at src) (type_at Any) (IsPos src) IsType nothing any_type (λ pos type. whole (var_of pos type)) (IsHeadOf src Var) head_asks (pos_reads src) (type_reads Any) (λ pos type. refl)
    (λ a pos b type c first second. (pos, type, refl, (b, first, second)))
    (λ a x b w. record { x = w.0; y = w.1; at_y = w.3.0; first = w.3.1; second = w.3.2; made = w.2 })

func_decl_reads : (src : Sections) → Reads (IsBytes src.strings) (func_decl_at src) (IsHeadOf src Func) head_asks
unfolding func_decl_at
func_decl_reads src =
    two_reads (pos_at src) (sig_at src) (IsPos src) (IsSig src) nothing sig_asks (λ pos sig. whole (function_of pos [] sig)) (IsHeadOf src Func) head_asks (pos_reads src) (sig_reads src) (λ pos sig. refl)
    (λ a pos b sig c first second. (pos, sig, refl, (b, b, first, refl, second)))
    (λ a x b w. record { x = w.0; y = w.1; at_y = w.3.0; first = w.3.2; second = subst (λ m. IsSig src m w.1 b) (sym w.3.3) w.3.4; made = w.2 })

defined_reads : (src : Sections) → Reads (IsBytes src.strings) (defined_at src) (IsHeadOf src Defined) head_asks
unfolding defined_at
defined_reads src =
    two_reads (pos_at src) (type_at Underlying) (IsPos src) IsType nothing (λ type. (type.number, Underlying) ∷ []) (λ pos type. of_type pos [] type) (IsHeadOf src Defined) head_asks
    (pos_reads src) (type_reads Underlying) (λ pos type. refl)
    (λ a pos b type c first second. (pos, type, refl, (b, b, first, refl, second)))
    (λ a x b w. record { x = w.0; y = w.1; at_y = w.3.0; first = w.3.2; second = subst (λ m. IsType m w.1 b) (sym w.3.3) w.3.4; made = w.2 })

alias_reads : (src : Sections) → Reads (IsBytes src.strings) (alias_at src) (IsHeadOf src Alias) head_asks
unfolding alias_at
alias_reads src =
    two_reads (pos_at src) (type_at Any) (IsPos src) IsType nothing any_type (λ pos type. whole (renamed_of pos [] type)) (IsHeadOf src Alias) head_asks (pos_reads src) (type_reads Any) (λ pos type. refl)
    (λ a pos b type c first second. (pos, type, refl, (b, b, first, refl, second)))
    (λ a x b w. record { x = w.0; y = w.1; at_y = w.3.0; first = w.3.2; second = subst (λ m. IsType m w.1 b) (sym w.3.3) w.3.4; made = w.2 })

-- ---- with type parameters

abbrev parameter_type : SpelledType → List Ask
parameter_type type = (type.number, Parameter) ∷ []

abbrev AreSome : Here → List SpelledType → Here → Type 0
AreSome = IsSome (type_at Parameter) IsType parameter_type

tparams_reads : {Given : Type 0} → Reads Given tparams_at AreSome (flat_map parameter_type)
tparams_reads = some_reads (type_at Parameter) IsType parameter_type (type_reads Parameter)

parameters_ask : (ts : List SpelledType) (others : List Ask) → flat_map parameter_type ts ++ others ≡ asking Parameter ts ++ others
parameters_ask ts others = ap (λ (asks : List Ask). asks ++ others) (flat_map_single (λ type. (type.number, Parameter)) ts)

generic_func_reads : (src : Sections) → Reads (IsBytes src.strings) (generic_func_at src) (IsHeadOf src GenericFunc) head_asks
unfolding generic_func_at
generic_func_reads src =
    three_reads (pos_at src) tparams_at (λ pos b ts. sig_at src) (IsPos src) AreSome (λ pos ts. IsSig src) nothing (flat_map parameter_type) (λ pos ts. sig_asks) (λ pos ts sig. whole (function_of pos ts sig))
    (IsHeadOf src GenericFunc) head_asks (pos_reads src) tparams_reads (λ pos b ts. sig_reads src) (λ pos ts sig. parameters_ask ts (sig_asks sig))
    join
    (λ a x b w. record { x = w.0; y = w.1 ∷ w.2; z = w.3; at_y = w.5.0; at_z = w.5.1; first = w.5.2; second = (w.5.3, omega arith); third = w.5.4; made = w.4 })
  where
    join : (a : Here) (pos : SpelledPos) (b : Here) (ts : List SpelledType) (c : Here) (sig : Sig) (d : Here) → IsPos src a pos b → AreSome b ts c → IsSig src c sig d → IsHeadOf src GenericFunc a (whole (function_of pos ts sig)) d
    join a pos b [] c sig d first second third = absurd (omega (arith, second.1))
    join a pos b (t ∷ ts) c sig d first second third = (pos, t, ts, sig, refl, (b, c, first, second.0, third))

generic_defined_reads : (src : Sections) → Reads (IsBytes src.strings) (generic_defined_at src) (IsHeadOf src GenericDefined) head_asks
unfolding generic_defined_at
generic_defined_reads src =
    three_reads (pos_at src) tparams_at (λ pos b ts. type_at Underlying) (IsPos src) AreSome (λ pos ts. IsType) nothing (flat_map parameter_type) (λ pos ts type. (type.number, Underlying) ∷ []) (λ pos ts type. of_type pos ts type)
    (IsHeadOf src GenericDefined) head_asks (pos_reads src) tparams_reads (λ pos b ts. type_reads Underlying) (λ pos ts type. parameters_ask ts ((type.number, Underlying) ∷ []))
    join
    (λ a x b w. record { x = w.0; y = w.1 ∷ w.2; z = w.3; at_y = w.5.0; at_z = w.5.1; first = w.5.2; second = (w.5.3, omega arith); third = w.5.4; made = w.4 })
  where
    join : (a : Here) (pos : SpelledPos) (b : Here) (ts : List SpelledType) (c : Here) (type : SpelledType) (d : Here) → IsPos src a pos b → AreSome b ts c → IsType c type d → IsHeadOf src GenericDefined a (of_type pos ts type) d
    join a pos b [] c type d first second third = absurd (omega (arith, second.1))
    join a pos b (t ∷ ts) c type d first second third = (pos, t, ts, type, refl, (b, c, first, second.0, third))

generic_alias_reads : (src : Sections) → Reads (IsBytes src.strings) (generic_alias_at src) (IsHeadOf src GenericAlias) head_asks
unfolding generic_alias_at
generic_alias_reads src =
    three_reads_where (pos_at src) tparams_at (λ pos b ts. type_at NoParameter) (IsPos src) AreSome (λ pos ts. IsType) nothing (flat_map parameter_type) (λ pos ts type. (type.number, NoParameter) ∷ [])
    (λ pos ts type. whole (renamed_of pos ts type)) (IsHeadOf src GenericAlias) head_asks (pos_reads src) tparams_reads (λ pos b ts. type_reads NoParameter) same
    join
    (λ a x b w. record { x = w.0; y = w.1 ∷ w.2; z = w.3; at_y = w.5.0; at_z = w.5.1; first = w.5.2; second = (w.5.3, omega arith); third = w.5.4; made = w.4 })
  where
    same : (pos : SpelledPos) (b c : Here) (ts : List SpelledType) (type : SpelledType) → AreSome b ts c → flat_map parameter_type ts ++ (type.number, NoParameter) ∷ [] ≡ head_asks (whole (renamed_of pos ts type))
    same pos b c [] type some = absurd (omega (arith, some.1))
    same pos b c (t ∷ ts) type some = parameters_ask (t ∷ ts) ((type.number, NoParameter) ∷ [])

    join : (a : Here) (pos : SpelledPos) (b : Here) (ts : List SpelledType) (c : Here) (type : SpelledType) (d : Here) → IsPos src a pos b → AreSome b ts c → IsType c type d → IsHeadOf src GenericAlias a (whole (renamed_of pos ts type)) d
    join a pos b [] c type d first second third = absurd (omega (arith, second.1))
    join a pos b (t ∷ ts) c type d first second third = (pos, t, ts, type, refl, (b, c, first, second.0, third))

-- ---- a type parameter

unplaced_constraint : (implicit : Bool) (at : ℕ) → unplaced (constraint_demand implicit at) ≡ constraint_demand implicit 0
unplaced_constraint true at = refl
unplaced_constraint false at = refl

constraint_reads : {Given : Type 0} (implicit : Bool) (at : ℕ) → Reads Given (type_at (constraint_demand implicit at)) IsType (λ type. (type.number, constraint_demand implicit 0) ∷ [])
constraint_reads implicit at =
    ask_reads (type_at (constraint_demand implicit at)) IsType (λ type. (type.number, unplaced (constraint_demand implicit at)) ∷ []) (λ type. (type.number, constraint_demand implicit 0) ∷ []) (type_reads (constraint_demand implicit at))
    (λ type. ap (λ (asked : Demand). (type.number, asked) ∷ []) (unplaced_constraint implicit at))

parameter_reads : (src : Sections) → Reads (IsBytes src.strings) (parameter_at src) (IsHeadOf src TypeParameter) head_asks
unfolding parameter_at
parameter_reads src =
    three_reads (pos_at src) truth_at (λ pos b implicit. type_at (constraint_demand implicit (place b.spot))) (IsPos src) IsTruth (λ pos implicit. IsType) nothing nothing (λ pos implicit type. (type.number, constraint_demand implicit 0) ∷ [])
    (λ pos implicit type. whole (type_parameter_of pos implicit type)) (IsHeadOf src TypeParameter) head_asks (pos_reads src) truth_reads (λ pos b implicit. constraint_reads implicit (place b.spot)) (λ pos implicit type. refl)
    (λ a pos b implicit c type d first second third. (pos, implicit, type, refl, (b, c, first, second, third)))
    (λ a x b w. record { x = w.0; y = w.1; z = w.2; at_y = w.4.0; at_z = w.4.1; first = w.4.2; second = w.4.3; third = w.4.4; made = w.3 })

-- ---- a constant, whose head has the place of its typeOff

constant_answers : (src : Sections) → IsBytes src.strings → (a : Ahead) → Fits a → Answered (IsHeadOf src ConstTag) head_asks a (constant_at src a)
unfolding constant_at
constant_answers src bytes a fits =
    then_answers (IsPos src) nothing (IsHeadOf src ConstTag) head_asks a a [] (pos_at src a) (λ pos. type_at Any pos.1 >>= λ type. Ok (of_constant pos.0 type.0 (place (pos.1).spot), type.1)) (went_nowhere a fits)
    ((pos_reads src).takes bytes a fits)
    (λ pos b first.
    then_answers IsType any_type (IsHeadOf src ConstTag) head_asks a b [] (type_at Any b) (λ type. Ok (of_constant pos type.0 (place b.spot), type.1)) first.went ((type_reads {Given = Unit {0}} Any).takes tt b first.went.fits)
    (λ type c second. record { stands = λ tail. (pos, type, place b.spot, refl, (seen_from b tail, first.stands tail, second.stands tail)); went = went_on a b c [] (any_type type) first.went second.went }))

-- Up to that place, the head that stands there is read again.
abbrev pub HeadAgain : Reader Head → Ahead → Head → List ℕ → Here → Type 0
HeadAgain p a x tail after = (y : Head) × (unplaced_head y ≡ unplaced_head x) × Again p a y tail after

constant_again : (src : Sections) (a : Ahead) (tail : List ℕ) (x : Head) (after : Here) → IsHeadOf src ConstTag (seen_from a tail) x after → length tail ≤ length after.left → HeadAgain (constant_at src) a x tail after
unfolding constant_at
constant_again src a tail x after w le =
    let first = (pos_reads src).again a tail w.0 w.4.0 w.4.1 (omega (arith, le, (type_reads {Given = Unit {0}} Any).shrinks w.4.0 w.1 after w.4.2)) in
    let second = (type_reads {Given = Unit {0}} Any).again first.0 tail w.1 after (subst (λ m. IsType m w.1 after) first.2 w.4.2) le in
    (of_constant w.0 w.1 (place first.0.spot), ap unplaced_head (sym w.3), (second.0, rw (first.1, second.1) refl, second.2))

constant_shrinks : (src : Sections) (a : Here) (x : Head) (b : Here) → IsHeadOf src ConstTag a x b → length b.left ≤ length a.left
constant_shrinks src a x b w = omega (arith, (pos_reads src).shrinks a w.0 w.4.0 w.4.1, (type_reads {Given = Unit {0}} Any).shrinks w.4.0 w.1 b w.4.2)

-- ---- each kind

head_by_answers : (src : Sections) → IsBytes src.strings → (tag : DeclTag) (a : Ahead) → Fits a → Answered (IsHeadOf src tag) head_asks a (head_by src tag a)
head_by_answers src bytes Var a fits = (var_reads src).takes bytes a fits
head_by_answers src bytes Func a fits = (func_decl_reads src).takes bytes a fits
head_by_answers src bytes GenericFunc a fits = (generic_func_reads src).takes bytes a fits
head_by_answers src bytes ConstTag a fits = constant_answers src bytes a fits
head_by_answers src bytes Defined a fits = (defined_reads src).takes bytes a fits
head_by_answers src bytes GenericDefined a fits = (generic_defined_reads src).takes bytes a fits
head_by_answers src bytes Alias a fits = (alias_reads src).takes bytes a fits
head_by_answers src bytes GenericAlias a fits = (generic_alias_reads src).takes bytes a fits
head_by_answers src bytes TypeParameter a fits = (parameter_reads src).takes bytes a fits

head_by_again : (src : Sections) (tag : DeclTag) (a : Ahead) (tail : List ℕ) (x : Head) (after : Here) → IsHeadOf src tag (seen_from a tail) x after → length tail ≤ length after.left → HeadAgain (head_by src tag) a x tail after
head_by_again src Var a tail x after w le = (x, refl, (var_reads src).again a tail x after w le)
head_by_again src Func a tail x after w le = (x, refl, (func_decl_reads src).again a tail x after w le)
head_by_again src GenericFunc a tail x after w le = (x, refl, (generic_func_reads src).again a tail x after w le)
head_by_again src ConstTag a tail x after w le = constant_again src a tail x after w le
head_by_again src Defined a tail x after w le = (x, refl, (defined_reads src).again a tail x after w le)
head_by_again src GenericDefined a tail x after w le = (x, refl, (generic_defined_reads src).again a tail x after w le)
head_by_again src Alias a tail x after w le = (x, refl, (alias_reads src).again a tail x after w le)
head_by_again src GenericAlias a tail x after w le = (x, refl, (generic_alias_reads src).again a tail x after w le)
head_by_again src TypeParameter a tail x after w le = (x, refl, (parameter_reads src).again a tail x after w le)

head_by_shrinks : (src : Sections) (tag : DeclTag) (a : Here) (x : Head) (b : Here) → IsHeadOf src tag a x b → length b.left ≤ length a.left
head_by_shrinks src Var a x b w = (var_reads src).shrinks a x b w
head_by_shrinks src Func a x b w = (func_decl_reads src).shrinks a x b w
head_by_shrinks src GenericFunc a x b w = (generic_func_reads src).shrinks a x b w
head_by_shrinks src ConstTag a x b w = constant_shrinks src a x b w
head_by_shrinks src Defined a x b w = (defined_reads src).shrinks a x b w
head_by_shrinks src GenericDefined a x b w = (generic_defined_reads src).shrinks a x b w
head_by_shrinks src Alias a x b w = (alias_reads src).shrinks a x b w
head_by_shrinks src GenericAlias a x b w = (generic_alias_reads src).shrinks a x b w
head_by_shrinks src TypeParameter a x b w = (parameter_reads src).shrinks a x b w

-- ---- the whole head

abbrev OneByte : List ℕ → ℕ → Type 0
OneByte bytes b = bytes ≡ b ∷ []

abbrev IsByte : Here → ℕ → Here → Type 0
IsByte a n b = Begins OneByte a.left n b.left × (b.before ≡ a.before)

byte_reads : {Given : Type 0} → Reads Given (λ a. plain a (byte_at a.spot)) IsByte nothing
byte_reads =
    plain_reads byte_at OneByte
    (λ given s b after fits e. let t = byte_at_takes s b after fits e in record { stands = (b ∷ [], refl, t.stands); same_end = t.same_end; fits = t.fits })
    (λ s b front rest spelled e. byte_at_again s b rest (e ∙ ap (λ (bytes : List ℕ). bytes ++ rest) spelled))

head_joins : (src : Sections) (tag : DeclTag) (n : ℕ) (a : Here) (b : Here) (x : Head) (c : Here) → IsByte a n b → decl_tag_of src.version n ≡ Some tag → IsHeadOf src tag b x c → IsHead src a x c
head_joins src tag n a b x c byte known w =
    let of_kind = kind_and_parts src tag b x c w in
    let its : n ≡ decl_tag_code (kind_of_head x) = sym (decl_tag_of_takes src.version n tag known) ∙ ap decl_tag_code (sym of_kind.0) in
    record {
      rest = b.left;
      kind = byte.0.2 ∙ ap (λ (bytes : List ℕ). bytes ++ b.left) byte.0.1 ∙ ap (λ (n : ℕ). n ∷ b.left) its;
      known = subst (λ n. decl_tag_of src.version n ≡ Some tag) its known ∙ ap (λ (t : DeclTag). Some t) (sym of_kind.0);
      parts = subst (λ p. IsHeadParts src (record { left = b.left; before = p }) x c) byte.1 of_kind.1;
    }

pub head_answers : (src : Sections) → IsBytes src.strings → (a : Ahead) → Fits a → Answered (IsHead src) head_asks a (head_at src a)
unfolding head_at
head_answers src bytes a fits =
    then_answers IsByte nothing (IsHead src) head_asks a a [] (plain a (byte_at a.spot)) (λ byte. or_stop a (faults.Tag (place a.spot) byte.0) (decl_tag_of src.version byte.0) >>= λ tag. head_by src tag byte.1) (went_nowhere a fits)
    ((byte_reads {Given = Unit {0}}).takes tt a fits)
    (λ n b first.
    judged_answers (IsHead src) head_asks a (faults.Tag (place a.spot) n) (decl_tag_of src.version n) (λ tag. head_by src tag b)
    (λ tag known.
    onward_answers (IsHeadOf src tag) head_asks (IsHead src) a b (head_by src tag b) first.went (head_by_answers src bytes tag b first.went.fits)
    (λ x c second tail. head_joins src tag n (seen_from a tail) (seen_from b tail) x (seen_from c tail) (first.stands tail) known (second.stands tail))))

pub head_again : (src : Sections) (a : Ahead) (tail : List ℕ) (x : Head) (after : Here) → IsHead src (seen_from a tail) x after → length tail ≤ length after.left → HeadAgain (head_at src) a x tail after
unfolding head_at
head_again src a tail x after w le =
    let tag = kind_of_head x in
    let next : Here = record { left = w.rest; before = a.before } in
    let parts : IsHeadOf src tag next x after = of_its_kind src next x after w.parts in
    let first = (byte_reads {Given = Unit {0}}).again a tail (decl_tag_code tag) next ((decl_tag_code tag ∷ [], refl, w.kind), refl) (omega (arith, le, head_by_shrinks src tag next x after parts)) in
    let second = head_by_again src tag first.0 tail x after (subst (λ m. IsHeadOf src tag m x after) first.2 parts) le in
    (second.0, second.1, (second.2.0, rw (first.1, w.known) second.2.1, second.2.2))

pub head_shrinks : (src : Sections) (a : Here) (x : Head) (b : Here) → IsHead src a x b → length b.left ≤ length a.left
head_shrinks src a x b w =
    let next : Here = record { left = w.rest; before = a.before } in
    omega (arith, ap (λ (bytes : List ℕ). length bytes) w.kind, head_by_shrinks src (kind_of_head x) next x b (of_its_kind src next x b w.parts))

-- ---- methods

abbrev make_receiver : SpelledPos → SpelledText → Param → Sig → Receiver
make_receiver pos name recv sig = record { pos = pos; name = name; recv = recv; sig = sig }

abbrev pub types_of_receiver : Receiver → List SpelledType
types_of_receiver x = receiver_types x

abbrev receiver_asks : Receiver → List Ask
receiver_asks x = asking Any (types_of_receiver x)

receiver_reads : (src : Sections) → Reads (IsBytes src.strings) (receiver_at src) (IsReceiver src) receiver_asks
unfolding receiver_at
receiver_reads src =
    four_reads (pos_at src) (text_at src) (param_at src) (sig_at src) (IsPos src) (IsText src) (IsParam src) (IsSig src) nothing nothing param_asks sig_asks make_receiver (IsReceiver src) receiver_asks
    (pos_reads src) (text_reads src) (param_reads src) (sig_reads src) (λ pos name recv sig. refl)
    (λ a pos b name c recv d sig e first second third fourth. record { at_name = b; at_recv = c; at_sig = d; pos = first; name = second; recv = third; sig = fourth })
    (λ a x b w. record {
      x = x.pos;
      y = x.name;
      z = x.recv;
      v = x.sig;
      at_y = w.at_name;
      at_z = w.at_recv;
      at_v = w.at_sig;
      first = w.pos;
      second = w.name;
      third = w.recv;
      fourth = w.sig;
      made = refl;
    })

pub receivers_reads : (src : Sections) → Reads (IsBytes src.strings) (list_at (receiver_at src)) (IsList (IsReceiver src)) (λ xs. asking Any (flat_map types_of_receiver xs))
receivers_reads src =
    ask_reads (list_at (receiver_at src)) (IsList (IsReceiver src)) (flat_map receiver_asks) (λ xs. asking Any (flat_map types_of_receiver xs)) (list_reads (receiver_at src) (IsReceiver src) receiver_asks (receiver_reads src))
    (asking-flat Any types_of_receiver)
