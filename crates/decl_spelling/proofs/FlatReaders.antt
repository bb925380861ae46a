-- The readers of the parts of descriptors.
use Rattle.std.proofs.Common.{◌≡◌, Bool, false, List, [], ◌∷◌, ◌++◌, refl, sym, ◌∙◌}
use Rattle.std.specs.List.{flat_map}
use Rattle.std.proofs.lemmas.List.{append-nil}
use Rattle.std.proofs.lemmas.List.Concat.{flat_map_single}
use Rattle.wire_bytes.proofs.Spellings.{IsBytes}
use Rattle.type_terms.specs.Shapes.{param_types, sig_types, field_types, method_types, term_types}
use Rattle.decl_spelling.specs.declared.mention.Demand.TheVariants.{Any}
use Rattle.decl_spelling.specs.Sections.{Sections}
use Rattle.decl_spelling.specs.Spelled.{SpelledText, SpelledPos, SpelledType, without_pos, with_pos, no_origin}
use Rattle.decl_spelling.specs.Reading.{truth_at, text_at, pos_at, type_at, list_at}
use Rattle.decl_spelling.specs.Descriptors.{Param, Sig, Field, Method, Term, param_at, variadic_at, sig_at, field_at, method_at, embedded_at, term_at}
use Rattle.decl_spelling.specs.Grammar.{IsTruth, IsText, IsPos, IsType, IsList, IsParam, IsVariadic, IsSig, IsField, IsMethod, IsEmbedded, IsTerm}
use Rattle.decl_spelling.specs.Asks.{Ask, asking}
use Rattle.decl_spelling.proofs.Readers.{Reads, nothing, give_reads, as_reads, two_reads}
use Rattle.decl_spelling.proofs.ReaderSteps.{three_reads, five_reads}
use Rattle.decl_spelling.proofs.BaseReaders.{truth_reads, text_reads, pos_reads, type_reads}
use Rattle.decl_spelling.proofs.ListReaders.{asking-append, asking-flat, list_reads}

abbrev pub any_type : SpelledType → List Ask
any_type type = (type.number, Any) ∷ []

-- ---- parameters

abbrev pub make_param : SpelledPos → SpelledText → SpelledType → Param
make_param pos name type = record { pos = pos; name = name; type = type }

abbrev pub param_asks : Param → List Ask
param_asks x = (x.type.number, Any) ∷ []

abbrev pub types_of_param : Param → List SpelledType
types_of_param x = param_types x

pub param_reads : (src : Sections) → Reads (IsBytes src.strings) (param_at src) (IsParam src) param_asks
unfolding param_at
param_reads src =
    three_reads (pos_at src) (text_at src) (λ pos b name. type_at Any) (IsPos src) (IsText src) (λ pos name. IsType) nothing nothing (λ pos name. any_type) make_param (IsParam src) param_asks
    (pos_reads src) (text_reads src) (λ pos b name. type_reads Any) (λ pos name type. refl)
    (λ a pos b name c type d first second third. record { at_name = b; at_type = c; pos = first; name = second; type = third })
    (λ a x b w. record { x = x.pos; y = x.name; z = x.type; at_y = w.at_name; at_z = w.at_type; first = w.pos; second = w.name; third = w.type; made = refl })

params_ask : (xs : List Param) → flat_map param_asks xs ≡ asking Any (flat_map types_of_param xs)
params_ask xs = asking-flat Any types_of_param xs

variadic_reads : (src : Sections) (params : List Param) → Reads (IsBytes src.strings) (variadic_at params) (IsVariadic params) nothing
variadic_reads src [] = as_reads (variadic_at []) (λ a x b. (x ≡ false) × (b ≡ a)) (IsVariadic []) nothing (give_reads (IsBytes src.strings) false) (λ a x b w. (w.0, sym w.1)) (λ a x b w. (w.0, sym w.1))
variadic_reads src (param ∷ params) = truth_reads

abbrev pub make_sig : List Param → List Param → Bool → Sig
make_sig params results variadic = record { params = params; results = results; variadic = variadic }

abbrev pub sig_asks : Sig → List Ask
sig_asks x = asking Any (sig_types x)

pub sig_reads : (src : Sections) → Reads (IsBytes src.strings) (sig_at src) (IsSig src) sig_asks
unfolding sig_at
sig_reads src =
    let params = list_reads (param_at src) (IsParam src) param_asks (param_reads src) in
    three_reads (list_at (param_at src)) (list_at (param_at src)) (λ params b results. variadic_at params) (IsList (IsParam src)) (IsList (IsParam src)) (λ params results. IsVariadic params)
    (flat_map param_asks) (flat_map param_asks) (λ params results. nothing) make_sig (IsSig src) sig_asks
    params params (λ params b results. variadic_reads src params)
    (λ params results variadic. (λ i. params_ask params i ++ (append-nil (flat_map param_asks results) ∙ params_ask results) i) ∙ asking-append Any (flat_map types_of_param params) (flat_map types_of_param results))
    (λ a params b results c variadic d first second third. record { at_results = b; at_variadic = c; params = first; results = second; variadic = third })
    (λ a x b w. record { x = x.params; y = x.results; z = x.variadic; at_y = w.at_results; at_z = w.at_variadic; first = w.params; second = w.results; third = w.variadic; made = refl })

-- ---- fields, methods, embedded types and terms

abbrev make_field : SpelledPos → SpelledText → SpelledType → Bool → SpelledText → Field
make_field pos name type embedded tag = record { origin = no_origin; pos = pos; name = name; type = type; embedded = embedded; tag = tag }

abbrev pub field_asks : Field → List Ask
field_asks x = (x.type.number, Any) ∷ []

abbrev pub types_of_field : Field → List SpelledType
types_of_field x = field_types x

pub field_reads : (src : Sections) → Reads (IsBytes src.strings) (field_at src) (IsField src) field_asks
unfolding field_at
field_reads src =
    five_reads (pos_at src) (text_at src) (type_at Any) truth_at (text_at src) (IsPos src) (IsText src) IsType IsTruth (IsText src) nothing nothing any_type nothing nothing make_field (IsField src) field_asks
    (pos_reads src) (text_reads src) (type_reads Any) truth_reads (text_reads src) (λ pos name type embedded tag. refl)
    (λ a pos b name c type d embedded e tag f first second third fourth fifth.
    record { at_name = b; at_type = c; at_embedded = d; at_tag = e; origin = refl; pos = first; name = second; type = third; embedded = fourth; tag = fifth })
    (λ a x b w. record {
      x = x.pos;
      y = x.name;
      z = x.type;
      v = x.embedded;
      u = x.tag;
      at_y = w.at_name;
      at_z = w.at_type;
      at_v = w.at_embedded;
      at_u = w.at_tag;
      first = w.pos;
      second = w.name;
      third = w.type;
      fourth = w.embedded;
      fifth = w.tag;
      made = λ i. record { origin = w.origin i; pos = x.pos; name = x.name; type = x.type; embedded = x.embedded; tag = x.tag };
    })

pub fields_ask : (xs : List Field) → flat_map field_asks xs ≡ asking Any (flat_map types_of_field xs)
fields_ask xs = asking-flat Any types_of_field xs

abbrev make_method : SpelledPos → SpelledText → Sig → Method
make_method pos name sig = record { origin = no_origin; pos = pos; name = name; sig = sig }

abbrev pub method_asks : Method → List Ask
method_asks x = sig_asks x.sig

abbrev pub types_of_method : Method → List SpelledType
types_of_method x = method_types x

pub method_reads : (src : Sections) → Reads (IsBytes src.strings) (method_at src) (IsMethod src) method_asks
unfolding method_at
method_reads src =
    three_reads (pos_at src) (text_at src) (λ pos b name. sig_at src) (IsPos src) (IsText src) (λ pos name. IsSig src) nothing nothing (λ pos name. sig_asks) make_method (IsMethod src) method_asks
    (pos_reads src) (text_reads src) (λ pos b name. sig_reads src) (λ pos name sig. refl)
    (λ a pos b name c sig d first second third. record { at_name = b; at_sig = c; origin = refl; pos = first; name = second; sig = third })
    (λ a x b w. record {
      x = x.pos;
      y = x.name;
      z = x.sig;
      at_y = w.at_name;
      at_z = w.at_sig;
      first = w.pos;
      second = w.name;
      third = w.sig;
      made = λ i. record { origin = w.origin i; pos = x.pos; name = x.name; sig = x.sig };
    })

pub methods_ask : (xs : List Method) → flat_map method_asks xs ≡ asking Any (flat_map types_of_method xs)
methods_ask xs = asking-flat Any types_of_method xs

pub embedded_reads : (src : Sections) → Reads (IsBytes src.strings) (embedded_at src) (IsEmbedded src) any_type
unfolding embedded_at
embedded_reads src =
    two_reads (pos_at src) (type_at Any) (IsPos src) IsType nothing any_type with_pos (IsEmbedded src) any_type (pos_reads src) (type_reads Any) (λ pos type. refl)
    (λ a pos b type c first second. (pos, refl, b, first, second.0))
    (λ a x b w. record { x = w.0; y = without_pos x.number; at_y = w.2; first = w.3; second = (w.4, refl); made = λ i. record { number = x.number; pos = w.1 i } })

pub singles_ask : (xs : List SpelledType) → flat_map any_type xs ≡ asking Any xs
singles_ask xs = flat_map_single (λ type. (type.number, Any)) xs

abbrev make_term : Bool → SpelledType → Term
make_term tilde type = record { tilde = tilde; type = type }

abbrev pub term_asks : Term → List Ask
term_asks x = (x.type.number, Any) ∷ []

abbrev pub types_of_term : Term → List SpelledType
types_of_term x = term_types x

pub term_reads : {Given : Type 0} → Reads Given term_at IsTerm term_asks
unfolding term_at
term_reads =
    two_reads truth_at (type_at Any) IsTruth IsType nothing any_type make_term IsTerm term_asks truth_reads (type_reads Any) (λ tilde type. refl)
    (λ a tilde b type c first second. (b, first, second))
    (λ a x b w. record { x = x.tilde; y = x.type; at_y = w.0; first = w.1; second = w.2; made = refl })

pub terms_ask : (xs : List Term) → flat_map term_asks xs ≡ asking Any (flat_map types_of_term xs)
terms_ask xs = asking-flat Any types_of_term xs
