-- What is written of a declaration that keeps the rules fits.
use Rattle.std.proofs.Common.{◌≡◌, ℕ, Bool, true, false, List, [], ◌∷◌, map, Some, refl, sym, ap, subst, ◌∙◌, ◌⊎◌, inl, inr}
use Rattle.std.specs.List.{All, AllByRecursion}
use Rattle.std.proofs.lemmas.List.Elements.{recursion_from_All, All-map, All-weaker}
use Rattle.go_values.specs.declared.positions.Pos.{Pos}
use Rattle.go_values.specs.declared.constants.Const.{Const}
use Rattle.go_values.specs.declared.constants.Const.TheVariants.{Bool as truth, Int as whole, Str as chars}
use Rattle.code_tables.specs.declared.predeclared.Basic.{Basic}
use Rattle.code_tables.specs.declared.predeclared.Basic.TheVariants as b
use Rattle.wire_bytes.specs.Whole.{IsGreatestLength}
use Rattle.type_terms.specs.Trees.{Text, Tree, predeclared}
use Rattle.type_terms.specs.Replaced.{all_left, all_right, all_append}
use Rattle.type_terms.specs.Declarations.{ReceiverOf, var_of, function_of, constant_of, defined_of, renamed_of, type_parameter_of, form_types, Decl}
use Rattle.type_terms.specs.DeclarationRules.{HasLast, IsProper, IsTypeParameter, IsInterface, IsUnderlying, MayHaveMethods, IsProperForm}
use Rattle.decl_spelling.specs.Sections.{Basics}
use Rattle.decl_spelling.specs.Constants.{Spelling, flag, offset, number, Kind, spelled, kind_of, basic_type}
use Rattle.decl_spelling.specs.Declarations.{has_methods}
use Rattle.file_layout.specs.Items.{a_type, type_items, param_items, sig_items, generic_items, receiver_items, methods_items, constant_kind, spelled_items, value_items, decl_items}
use Rattle.file_layout.specs.Conditions.{ItemFits, TypeFits, IsValueFor, ConstantFits, DeclFits}
use Rattle.written_types.specs.Written.{full, position_written, written, decl_written}
use Rattle.written_types.proofs.NameLemmas.{types_of_form}
use Rattle.exported_file.specs.Small.{IsSmall, IsSmallType, IsWritable}
use Rattle.exported_file.proofs.WrittenLevels.{written_full, param_written, sig_written}
use Rattle.exported_file.proofs.Fitting.{Small, Fit, position_fits, fit_list, sig_fits, param_fits, type_fits, last_kept, written_fits}

-- ---- what is written of a type is of its kind

parameter_kept : (type : Tree) → IsTypeParameter type → IsTypeParameter (written full type)
parameter_kept (predeclared basic) is = is
parameter_kept _ is = is

parameter_back : (type : Tree) → IsTypeParameter (written full type) → IsTypeParameter type
parameter_back (predeclared basic) is = is
parameter_back _ is = is

interface_kept : (type : Tree) → IsInterface type → IsInterface (written full type)
interface_kept (predeclared basic) is = is
interface_kept _ is = is

underlying_kept : (type : Tree) → IsUnderlying type → IsUnderlying (written full type)
underlying_kept (predeclared basic) is = is
underlying_kept _ is = is

may_have_kept : (type : Tree) → MayHaveMethods type → MayHaveMethods (written full type)
may_have_kept (predeclared basic) may = may
may_have_kept _ may = may

has_kept : (type : Tree) → has_methods (written full type) ≡ has_methods type
has_kept (predeclared basic) = refl
has_kept _ = refl

basic_kept : (basics : Basics) (type : Tree) → basic_type basics (written full type) ≡ basic_type basics type
basic_kept basics (predeclared basic) = refl
basic_kept basics _ = refl

-- ---- constants

abbrev max_of : Kind → ℕ
max_of (spelled (number signed max)) = max
max_of _ = 8

of_basic : (basic : Basic) → IsGreatestLength (max_of (kind_of basic))
of_basic b.Int8 = inl refl
of_basic b.Uint8 = inl refl
of_basic b.Byte = inl refl
of_basic b.Int16 = inr (inl refl)
of_basic b.Uint16 = inr (inl refl)
of_basic b.Int32 = inr (inr (inl refl))
of_basic b.Uint32 = inr (inr (inl refl))
of_basic b.Rune = inr (inr (inl refl))
of_basic b.UntypedInt = inr (inr (inr (inr refl)))
of_basic b.UntypedRune = inr (inr (inr (inr refl)))
of_basic _ = inr (inr (inr (inl refl)))

spelled_fit : (basic : Basic) (spelling : Spelling) (value : Const) → kind_of basic ≡ spelled spelling → IsValueFor spelling value → Fit (spelled_items spelling value)
spelled_fit basic flag (truth x) is fits = (tt, tt)
spelled_fit basic flag (whole x) is fits = elim fits [ ]
spelled_fit basic flag (chars x) is fits = elim fits [ ]
spelled_fit basic offset (chars x) is fits = (tt, tt)
spelled_fit basic offset (truth x) is fits = elim fits [ ]
spelled_fit basic offset (whole x) is fits = elim fits [ ]
spelled_fit basic (number signed max) (whole x) is fits = ((subst IsGreatestLength (ap max_of is) (of_basic basic), fits), tt)
spelled_fit basic (number signed max) (truth x) is fits = elim fits [ ]
spelled_fit basic (number signed max) (chars x) is fits = elim fits [ ]

value_fits : (basics : Basics) (type : Tree) (value : Const) (basic : Basic) (spelling : Spelling) → basic_type basics type ≡ Some basic → kind_of basic ≡ spelled spelling → IsValueFor spelling value
    → Fit (value_items (constant_kind (basic_type basics (written full type))) value)
value_fits basics type value basic spelling its is fits =
    let kind : constant_kind (basic_type basics (written full type)) ≡ spelled spelling = ap constant_kind (basic_kept basics type ∙ its) ∙ is in
    subst (λ (k : Kind). Fit (value_items k value)) (sym kind) (tt, spelled_fit basic spelling value is fits)

constant_kept : (basics : Basics) (decl : Decl) → ConstantFits basics decl → ConstantFits basics (decl_written full decl)
constant_kept basics (constant_of pos type value) fits = (fits.0, fits.1, basic_kept basics type ∙ fits.2, fits.3, fits.4)
constant_kept basics (var_of pos type) fits = tt
constant_kept basics (function_of pos tparams sig) fits = tt
constant_kept basics (defined_of pos tparams underlying methods) fits = tt
constant_kept basics (renamed_of pos tparams type) fits = tt
constant_kept basics (type_parameter_of pos implicit constraint) fits = tt

-- ---- the parts of declarations

abbrev receiver_written : ReceiverOf Pos Text Tree → ReceiverOf Pos Text Tree
receiver_written x = record { pos = position_written x.pos; name = x.name; recv = param_written x.recv; sig = sig_written x.sig }

receiver_fits : (x : ReceiverOf Pos Text Tree) → Small (receiver_items x) → Fit (receiver_items (receiver_written x))
receiver_fits x small =
    let first = all_left IsSmall (param_items x.recv) (sig_items x.sig) small.1.1 in
    let rest = all_right IsSmall (param_items x.recv) (sig_items x.sig) small.1.1 in
    (position_fits x.pos small.0, (tt, all_append ItemFits (param_items (param_written x.recv)) (sig_items (sig_written x.sig)) (param_fits x.recv first) (sig_fits x.sig rest)))

methods_fit : (has : Bool) (xs : List (ReceiverOf Pos Text Tree)) → Small (methods_items has xs) → Fit (methods_items has (map receiver_written xs))
methods_fit true xs small = fit_list receiver_items receiver_written receiver_fits xs small
methods_fit false xs small = tt

generic_fits : (xs : List Tree) → Small (generic_items xs) → Fit (generic_items (map written_full xs))
generic_fits [] small = tt
generic_fits (x ∷ xs) small = fit_list type_items written_full type_fits (x ∷ xs) small

items_fit : (basics : Basics) (decl : Decl) → ConstantFits basics decl → Small (decl_items basics decl) → Fit (decl_items basics (decl_written full decl))
items_fit basics (var_of pos type) constant small = (position_fits pos small.0, (tt, tt))
items_fit basics (function_of pos tparams sig) constant small =
    let first = all_left IsSmall (generic_items tparams) (sig_items sig) small.1 in
    let rest = all_right IsSmall (generic_items tparams) (sig_items sig) small.1 in
    (position_fits pos small.0, all_append ItemFits (generic_items (map written_full tparams)) (sig_items (sig_written sig)) (generic_fits tparams first) (sig_fits sig rest))
items_fit basics (constant_of pos type value) constant small =
    (position_fits pos small.0, (tt, value_fits basics type value constant.0 constant.1 constant.2 constant.3 constant.4))
items_fit basics (defined_of pos tparams underlying methods) constant small =
    let own = methods_items (has_methods underlying) methods in
    let first = all_left IsSmall (generic_items tparams) (a_type underlying ∷ own) small.1 in
    let rest = all_right IsSmall (generic_items tparams) (a_type underlying ∷ own) small.1 in (
      position_fits pos small.0,
      all_append ItemFits (generic_items (map written_full tparams)) (a_type (written full underlying) ∷ methods_items (has_methods (written full underlying)) (map receiver_written methods)) (generic_fits tparams first)
          (tt, subst (λ (has : Bool). Fit (methods_items has (map receiver_written methods))) (sym (has_kept underlying)) (methods_fit (has_methods underlying) methods rest.1)),
    )
items_fit basics (renamed_of pos tparams type) constant small =
    let first = all_left IsSmall (generic_items tparams) (a_type type ∷ []) small.1 in
    (position_fits pos small.0, all_append ItemFits (generic_items (map written_full tparams)) (a_type (written full type) ∷ []) (generic_fits tparams first) (tt, tt))
items_fit basics (type_parameter_of pos implicit constraint) constant small = (position_fits pos small.0, (tt, (tt, tt)))

parameters_kept : (xs : List Tree) → All IsTypeParameter xs → All IsTypeParameter (map written_full xs)
parameters_kept xs all = All-map IsTypeParameter written_full xs (All-weaker IsTypeParameter (λ t. IsTypeParameter (written full t)) parameter_kept xs all)

receivers_kept : (xs : List (ReceiverOf Pos Text Tree)) → All (λ m. HasLast m.sig) xs → All (λ m. HasLast m.sig) (map receiver_written xs)
receivers_kept xs all = All-map (λ m. HasLast m.sig) receiver_written xs (All-weaker (λ m. HasLast m.sig) (λ m. HasLast (sig_written m.sig)) (λ m. last_kept m.sig) xs all)

no_methods_kept : (type : Tree) (xs : List (ReceiverOf Pos Text Tree)) → (xs ≡ []) ⊎ MayHaveMethods type → (map receiver_written xs ≡ []) ⊎ MayHaveMethods (written full type)
no_methods_kept type xs (inl none) = inl (ap (map receiver_written) none)
no_methods_kept type xs (inr may) = inr (may_have_kept type may)

side_kept : (tparams : List Tree) (type : Tree) → (tparams ≡ []) ⊎ (IsTypeParameter type → ⊥) → (map written_full tparams ≡ []) ⊎ (IsTypeParameter (written full type) → ⊥)
side_kept tparams type (inl none) = inl (ap (map written_full) none)
side_kept tparams type (inr other) = inr (λ is. other (parameter_back type is))

form_kept : (decl : Decl) → IsProperForm decl → IsProperForm (decl_written full decl)
form_kept (var_of pos type) proper = tt
form_kept (function_of pos tparams sig) proper = (parameters_kept tparams proper.0, last_kept sig proper.1)
form_kept (constant_of pos type value) proper = tt
form_kept (defined_of pos tparams underlying methods) proper =
    (parameters_kept tparams proper.0, underlying_kept underlying proper.1, no_methods_kept underlying methods proper.2, receivers_kept methods proper.3)
form_kept (renamed_of pos tparams type) proper = (parameters_kept tparams proper.0, side_kept tparams type proper.1)
form_kept (type_parameter_of pos implicit constraint) proper = λ is. interface_kept constraint (proper is)

all_types : (xs : List Tree) → AllByRecursion IsProper xs → AllByRecursion IsSmallType xs → AllByRecursion TypeFits (map written_full xs)
all_types [] proper small = tt
all_types (x ∷ xs) proper small = (written_fits x proper.0 small.0, all_types xs proper.1 small.1)

pub decl_fits : (basics : Basics) (decl : Decl) → IsWritable basics decl → DeclFits basics (decl_written full decl)
decl_fits basics decl may = record {
  proper = form_kept decl may.proper.form;
  constant = constant_kept basics decl may.constant;
  items = items_fit basics decl may.constant may.small;
  types =
      subst (AllByRecursion TypeFits) (sym (types_of_form (written full) decl))
      (all_types (form_types decl) (recursion_from_All IsProper (form_types decl) may.proper.types) may.types);
}
