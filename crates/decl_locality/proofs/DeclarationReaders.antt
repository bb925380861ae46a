-- The readers of a declaration's own block, by their steps.
use Rattle.std.proofs.Common.{◌≡◌, ℕ, ◌*◌, ◌<◌, length, subst, Bool, true, false, cond, [], Result, Ok, Err, refl}
use Rattle.std.specs.Prelude.{◌==◌, ℤ}
use Rattle.code_tables.specs.declared.declarations.DeclTag.{DeclTag}
use Rattle.code_tables.specs.declared.declarations.DeclTag.TheVariants.{Var, Func, GenericFunc, Const as ConstTag, Defined, GenericDefined, Alias, GenericAlias, TypeParameter}
use Rattle.go_values.specs.declared.constants.Const.TheVariants.{Bool as truth, Int as whole_value}
use Rattle.wire_bytes.specs.declared.fault.ByteFault.{ByteFault}
use Rattle.wire_bytes.specs.declared.fault.ByteFault.TheVariants as faults
use Rattle.wire_bytes.specs.Reading.{Spot, place, ◌>>=◌, byte_at}
use Rattle.wire_bytes.specs.Uvarint.{uvarint_at}
use Rattle.wire_bytes.specs.Varint.{number_of, varint_at, flag_of, flag_at}
use Rattle.wire_bytes.proofs.Steps.{bind_ok, done_is}
use Rattle.wire_bytes.proofs.LocalLemmas.{TakesSome as TakesSomeBytes}
use Rattle.wire_bytes.specs.Whole.{whole_at}
use Rattle.wire_bytes.proofs.NumbersLocal.{byte_local, byte_some, uvarint_some, varint_local, varint_some, whole_local}
use Rattle.type_terms.specs.Declarations.{var_of, function_of, renamed_of, type_parameter_of}
use Rattle.decl_spelling.specs.declared.mention.Demand.TheVariants.{Any as any, Parameter, Underlying, NoParameter}
use Rattle.decl_spelling.specs.Sections.{Sections}
use Rattle.decl_spelling.specs.Spelled.{SpelledConst}
use Rattle.decl_spelling.specs.Codes.{decl_tag_of}
use Rattle.decl_spelling.specs.Reading.{Ahead, Reader, Stopped, plain, truth_at, text_at, pos_at, type_at, list_at}
use Rattle.decl_spelling.specs.Descriptors.{param_at, sig_at}
use Rattle.decl_spelling.specs.Constants.{Spelling, flag, offset, number, kind_number, kind_given_at, kind_at, value_alone, text_value, with_value, spelled_at, value_at}
use Rattle.decl_spelling.specs.Declarations.{whole, of_type, of_constant, tparams_at, var_at, func_decl_at, generic_func_at, constant_at, defined_at, generic_defined_at, alias_at, generic_alias_at, constraint_demand, parameter_at, head_by, head_at, receiver_at}
use Rattle.decl_locality.specs.LocalReaders.{IsLocal}
use Rattle.decl_locality.proofs.InsideLemmas.{IsLocalFrom, TakesSome, from_local, same_local, done_local, done_from, then_local, then_placed, then_from, from_then}
use Rattle.decl_locality.proofs.BaseReaders.{plain_local, plain_some, judged_then, asked_then, truth_local, text_local, pos_local, type_local, constraint_from, list_local, some_local}
use Rattle.decl_locality.proofs.DescriptorReaders.{any_local, param_local, sig_local}

-- ---- heads

tparams_local : IsLocal tparams_at
tparams_local = some_local (type_at Parameter) (type_local Parameter (λ from end. tt))

var_local : (src : Sections) → IsLocal (var_at src)
unfolding var_at
var_local src =
    then_local (pos_at src) (λ pos a. type_at any a >>= λ type. Ok (whole (var_of pos type.0), type.1)) (pos_local src)
    (λ pos. then_local (type_at any) (λ type a. Ok (whole (var_of pos type), a)) any_local (λ type. done_local _))

func_local : (src : Sections) → IsLocal (func_decl_at src)
unfolding func_decl_at
func_local src =
    then_local (pos_at src) (λ pos a. sig_at src a >>= λ sig. Ok (whole (function_of pos [] sig.0), sig.1)) (pos_local src)
    (λ pos. then_local (sig_at src) (λ sig a. Ok (whole (function_of pos [] sig), a)) (sig_local src) (λ sig. done_local _))

generic_func_local : (src : Sections) → IsLocal (generic_func_at src)
unfolding generic_func_at
generic_func_local src =
    then_local (pos_at src) (λ pos a. tparams_at a >>= λ tparams. sig_at src tparams.1 >>= λ sig. Ok (whole (function_of pos tparams.0 sig.0), sig.1)) (pos_local src)
    (λ pos. then_local tparams_at (λ tparams a. sig_at src a >>= λ sig. Ok (whole (function_of pos tparams sig.0), sig.1)) tparams_local
    (λ tparams. then_local (sig_at src) (λ sig a. Ok (whole (function_of pos tparams sig), a)) (sig_local src) (λ sig. done_local _)))

-- what is kept of the typeOff is its place too
constant_local : (src : Sections) → IsLocal (constant_at src)
unfolding constant_at
constant_local src =
    then_local (pos_at src) (λ pos a. type_at any a >>= λ type. Ok (of_constant pos type.0 (place a.spot), type.1)) (pos_local src)
    (λ pos. then_placed (type_at any) (λ start type a. Ok (of_constant pos type start, a)) any_local (λ start type. done_local _))

defined_local : (src : Sections) → IsLocal (defined_at src)
unfolding defined_at
defined_local src =
    then_local (pos_at src) (λ pos a. type_at Underlying a >>= λ type. Ok (of_type pos [] type.0, type.1)) (pos_local src)
    (λ pos. then_local (type_at Underlying) (λ type a. Ok (of_type pos [] type, a)) (type_local Underlying (λ from end. tt)) (λ type. done_local _))

generic_defined_local : (src : Sections) → IsLocal (generic_defined_at src)
unfolding generic_defined_at
generic_defined_local src =
    then_local (pos_at src) (λ pos a. tparams_at a >>= λ tparams. type_at Underlying tparams.1 >>= λ type. Ok (of_type pos tparams.0 type.0, type.1)) (pos_local src)
    (λ pos. then_local tparams_at (λ tparams a. type_at Underlying a >>= λ type. Ok (of_type pos tparams type.0, type.1)) tparams_local
    (λ tparams. then_local (type_at Underlying) (λ type a. Ok (of_type pos tparams type, a)) (type_local Underlying (λ from end. tt)) (λ type. done_local _)))

alias_local : (src : Sections) → IsLocal (alias_at src)
unfolding alias_at
alias_local src =
    then_local (pos_at src) (λ pos a. type_at any a >>= λ type. Ok (whole (renamed_of pos [] type.0), type.1)) (pos_local src)
    (λ pos. then_local (type_at any) (λ type a. Ok (whole (renamed_of pos [] type), a)) any_local (λ type. done_local _))

generic_alias_local : (src : Sections) → IsLocal (generic_alias_at src)
unfolding generic_alias_at
generic_alias_local src =
    then_local (pos_at src) (λ pos a. tparams_at a >>= λ tparams. type_at NoParameter tparams.1 >>= λ type. Ok (whole (renamed_of pos tparams.0 type.0), type.1)) (pos_local src)
    (λ pos. then_local tparams_at (λ tparams a. type_at NoParameter a >>= λ type. Ok (whole (renamed_of pos tparams type.0), type.1)) tparams_local
    (λ tparams. then_local (type_at NoParameter) (λ type a. Ok (whole (renamed_of pos tparams type), a)) (type_local NoParameter (λ from end. tt)) (λ type. done_local _)))

constraint_local : (implicit : Bool) (start : ℕ) → IsLocalFrom start (type_at (constraint_demand implicit start))
constraint_local true start = constraint_from start
constraint_local false start = from_local start (type_at any) any_local

flag_some : TakesSomeBytes flag_at
flag_some s after x e =
    let read = bind_ok (uvarint_at s) (λ n. flag_of (place s) n.0 >>= λ flag. Ok (flag, n.1)) (x, after) e in
    let judged = bind_ok (flag_of (place s) read.0.0) (λ flag. Ok (flag, read.0.1)) (x, after) read.2 in
    let same = done_is (judged.0, read.0.1) (x, after) judged.2 in
    subst (λ (p : Bool × Spot). length p.1.left < length s.left) same (uvarint_some s read.0.1 read.0.0 read.1)

truth_some : TakesSome truth_at
truth_some = plain_some flag_at flag_some

parameter_local : (src : Sections) → IsLocal (parameter_at src)
unfolding parameter_at
parameter_local src =
    then_local (pos_at src) (λ pos a. truth_at a >>= λ implicit. type_at (constraint_demand implicit.0 (place a.spot)) implicit.1 >>= λ type. Ok (whole (type_parameter_of pos implicit.0 type.0), type.1)) (pos_local src)
    (λ pos. then_from truth_at (λ start implicit a. type_at (constraint_demand implicit start) a >>= λ type. Ok (whole (type_parameter_of pos implicit type.0), type.1)) truth_local truth_some
    (λ start implicit. from_then (type_at (constraint_demand implicit start)) start (λ type a. Ok (whole (type_parameter_of pos implicit type), a)) (constraint_local implicit start) (λ type. done_from start _)))

by_local : (src : Sections) (tag : DeclTag) → IsLocal (head_by src tag)
by_local src Var = var_local src
by_local src Func = func_local src
by_local src GenericFunc = generic_func_local src
by_local src ConstTag = constant_local src
by_local src Defined = defined_local src
by_local src GenericDefined = generic_defined_local src
by_local src Alias = alias_local src
by_local src GenericAlias = generic_alias_local src
by_local src TypeParameter = parameter_local src

abbrev tag_at : ℕ → ℕ → ByteFault
tag_at start n = faults.Tag start n

pub head_local : (src : Sections) → IsLocal (head_at src)
unfolding head_at
head_local src = judged_then byte_at tag_at (λ start n. (refl, refl)) byte_local byte_some (decl_tag_of src.version) (λ n tag. head_by src tag) (λ n tag. by_local src tag)

-- ---- methods

receiver_local : (src : Sections) → IsLocal (receiver_at src)
unfolding receiver_at
receiver_local src =
    then_local (pos_at src)
    (λ pos a. text_at src a >>= λ name. param_at src name.1 >>= λ recv. sig_at src recv.1 >>= λ sig. Ok (record { pos = pos; name = name.0; recv = recv.0; sig = sig.0 }, sig.1)) (pos_local src)
    (λ pos. then_local (text_at src) (λ name a. param_at src a >>= λ recv. sig_at src recv.1 >>= λ sig. Ok (record { pos = pos; name = name; recv = recv.0; sig = sig.0 }, sig.1)) (text_local src)
    (λ name. then_local (param_at src) (λ recv a. sig_at src a >>= λ sig. Ok (record { pos = pos; name = name; recv = recv; sig = sig.0 }, sig.1)) (param_local src)
    (λ recv. then_local (sig_at src) (λ sig a. Ok (record { pos = pos; name = name; recv = recv; sig = sig }, a)) (sig_local src) (λ sig. done_local _))))

pub receivers_local : (src : Sections) → IsLocal (list_at (receiver_at src))
receivers_local src = list_local (receiver_at src) (receiver_local src)

-- ---- values of constants

abbrev signed_tag_at : ℕ → ℤ → ByteFault
signed_tag_at start n = faults.Tag start (number_of n)

kind_given_local : (spelling : Spelling) → IsLocal (kind_given_at spelling)
unfolding kind_given_at
kind_given_local spelling =
    asked_then varint_at signed_tag_at (λ start n. (refl, refl)) varint_local varint_some (λ n. number_of n == 2 * kind_number spelling) (λ n a. Ok (tt, a)) (λ n. done_local tt)

kind_local : (version : ℕ) (spelling : Spelling) → IsLocal (kind_at version spelling)
kind_local version spelling = by (version == 1)
  where
    by : (first : Bool) → IsLocal (λ a. cond first (Ok (tt, a)) (kind_given_at spelling a))
    by true = done_local tt
    by false = kind_given_local spelling

with_value_is : {X : Type 0} (make : X → SpelledConst) (r : Result (X × Ahead) Stopped) → (r >>= λ x. Ok (make x.0, x.1)) ≡ with_value make r
with_value_is make (Ok x) = refl
with_value_is make (Err s) = refl

value_of_local : {X : Type 0} (read : Reader X) (make : X → SpelledConst) → IsLocal read → IsLocal (λ a. with_value make (read a))
value_of_local read make local =
    same_local (λ a. read a >>= λ x. Ok (make x.0, x.1)) (λ a. with_value make (read a)) (λ a. with_value_is make (read a))
    (then_local read (λ x a. Ok (make x, a)) local (λ x. done_local (make x)))

spelled_local : (src : Sections) (spelling : Spelling) → IsLocal (spelled_at src spelling)
spelled_local src flag = value_of_local truth_at (λ x. value_alone (truth x)) truth_local
spelled_local src offset = value_of_local (text_at src) text_value (text_local src)
spelled_local src (number signed max) = value_of_local (λ a. plain a (whole_at signed max a.spot)) (λ x. value_alone (whole_value x)) (plain_local (whole_at signed max) (whole_local signed max))

pub value_local : (src : Sections) (spelling : Spelling) → IsLocal (value_at src spelling)
unfolding value_at
value_local src spelling = then_local (kind_at src.version spelling) (λ kind. spelled_at src spelling) (kind_local src.version spelling) (λ kind. spelled_local src spelling)
