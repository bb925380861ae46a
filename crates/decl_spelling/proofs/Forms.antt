-- The parts of a declaration, by their typeOffs and with the types that these name.
use Rattle.std.proofs.Common.{◌≡◌, ℕ, List, [], ◌∷◌, ◌++◌, map, Bool, true, false, not, None, refl, sym, ◌∙◌, ap, subst, arith}
use Rattle.std.specs.List.{flat_map, AllByRecursion}
use Rattle.std.proofs.lemmas.List.{map-append}
use Rattle.std.proofs.lemmas.List.Elements.{All-from_recursion}
use Rattle.code_tables.specs.declared.declarations.DeclTag.{DeclTag}
use Rattle.code_tables.specs.declared.declarations.DeclTag.TheVariants.{Func, GenericFunc, Defined, GenericDefined, Alias, GenericAlias}
use Rattle.type_terms.specs.Shapes.{sig_map, sig_types}
use Rattle.type_terms.specs.ShapeLaws.{sig_types_map}
use Rattle.type_terms.specs.Replaced.{all_left, all_right, all_append, parts_of_map}
use Rattle.type_terms.specs.Trees.{Tree}
use Rattle.type_terms.specs.Declarations.{ReceiverOf, Form, var_of, function_of, constant_of, defined_of, renamed_of, type_parameter_of, receiver_map, receiver_types, form_map, form_types}
use Rattle.decl_spelling.specs.declared.mention.Demand.{Demand}
use Rattle.decl_spelling.specs.declared.mention.Demand.TheVariants.{Any, Parameter, Underlying}
use Rattle.decl_spelling.specs.Sections.{Sections, Basics}
use Rattle.decl_spelling.specs.Spelled.{SpelledText, SpelledPos, SpelledType, SpelledForm, pos_meant, text_meant, form_meant}
use Rattle.decl_spelling.specs.Descriptors.{Sig}
use Rattle.decl_spelling.specs.Descent.{meets, is_parameter, is_interface}
use Rattle.decl_spelling.specs.Declarations.{FlatForm, Receiver, whole, constraint_demand}
use Rattle.decl_spelling.specs.Grammar.{Here, IsType, IsList, IsSig}
use Rattle.decl_spelling.specs.Spelling.{Known, KnownForm, numbers, number_of, same_pos, same_text, numbered, numbered_receiver, IsGenericList, IsRightSide, IsForm, generic_or, kind_of_decl}
use Rattle.decl_spelling.specs.Asks.{Ask, asking}
use Rattle.decl_spelling.proofs.Took.{AreTParams, IsHeadParts, kind_of_head, right_demand, head_asks}
use Rattle.decl_spelling.proofs.RetypeLemmas.{sig_twice, sig_same, receiver_twice, receiver_same}
use Rattle.decl_spelling.proofs.AskLemmas.{all_asking}
use Rattle.decl_spelling.proofs.MapLemmas.{map_twice, map_same, all_map, all_unmap}

-- ---- the types of a whole form, and what is asked of them

abbrev pub form_asks : FlatForm → List Ask
form_asks (var_of pos type) = (type.number, Any) ∷ []
form_asks (function_of pos tparams sig) = asking Parameter tparams ++ asking Any (sig_types sig)
form_asks (constant_of pos type value) = (type.number, Any) ∷ []
form_asks (defined_of pos tparams underlying methods) = asking Parameter tparams ++ (underlying.number, Underlying) ∷ asking Any (flat_map receiver_types methods)
form_asks (renamed_of pos tparams type) = asking Parameter tparams ++ (type.number, right_demand tparams) ∷ []
form_asks (type_parameter_of pos implicit constraint) = (constraint.number, constraint_demand implicit 0) ∷ []

module _ (P : Ask → Type 0) (Q : SpelledType → Type 0) (each : (type : SpelledType) (asked : Demand) → P (type.number, asked) → Q type) where
  pub form_all : (form : FlatForm) → AllByRecursion P (form_asks form) → AllByRecursion Q (form_types form)
  form_all (var_of pos type) all = (each type Any all.0, tt)
  form_all (function_of pos tparams sig) all =
      all_append Q tparams (sig_types sig) (all_asking P Q each Parameter tparams (all_left P (asking Parameter tparams) (asking Any (sig_types sig)) all))
      (all_asking P Q each Any (sig_types sig) (all_right P (asking Parameter tparams) (asking Any (sig_types sig)) all))
  form_all (constant_of pos type value) all = (each type Any all.0, tt)
  form_all (defined_of pos tparams underlying methods) all =
      let behind : List Ask = (underlying.number, Underlying) ∷ asking Any (flat_map receiver_types methods) in
      let right : AllByRecursion P behind = all_right P (asking Parameter tparams) behind all in
      all_append Q tparams (underlying ∷ flat_map receiver_types methods) (all_asking P Q each Parameter tparams (all_left P (asking Parameter tparams) behind all))
      (each underlying Underlying right.0, all_asking P Q each Any (flat_map receiver_types methods) right.1)
  form_all (renamed_of pos tparams type) all =
      let behind : List Ask = (type.number, right_demand tparams) ∷ [] in
      all_append Q tparams (type ∷ []) (all_asking P Q each Parameter tparams (all_left P (asking Parameter tparams) behind all)) (each type (right_demand tparams) (all_right P (asking Parameter tparams) behind all).0, tt)
  form_all (type_parameter_of pos implicit constraint) all = (each constraint (constraint_demand implicit 0) all.0, tt)

  -- a head that is a whole form
  pub whole_asks : (src : Sections) (a : Here) (form : FlatForm) (b : Here) → IsHeadParts src a (whole form) b → AllByRecursion P (head_asks (whole form)) → AllByRecursion P (form_asks form)
  whole_asks src a (var_of pos type) b parts all = all
  whole_asks src a (function_of pos tparams sig) b parts all = all
  whole_asks src a (constant_of pos type value) b parts all = absurd parts
  whole_asks src a (defined_of pos tparams underlying methods) b parts all = absurd parts
  whole_asks src a (renamed_of pos tparams type) b parts all = all
  whole_asks src a (type_parameter_of pos implicit constraint) b parts all = all

-- ---- replaced

module _ {P P' S S' R R' : Type 0} (p : P → P') (s : S → S') (r : R → R') where
  pub receivers_types_map : (xs : List (ReceiverOf P S R)) → flat_map receiver_types (map (receiver_map p s r) xs) ≡ map r (flat_map receiver_types xs)
  receivers_types_map = parts_of_map (receiver_map p s r) r receiver_types receiver_types (λ x. ap (λ (rest : List R'). r x.recv.type ∷ rest) (sig_types_map p s s r x.sig))

  pub form_types_map : (form : Form P S R) → form_types (form_map p s r form) ≡ map r (form_types form)
  form_types_map (function_of pos tparams sig) =
      ap (λ (rest : List R'). map r tparams ++ rest) (sig_types_map p s s r sig) ∙ sym (map-append r tparams (sig_types sig))
  form_types_map (defined_of pos tparams underlying methods) =
      ap (λ (rest : List R'). map r tparams ++ r underlying ∷ rest) (receivers_types_map methods) ∙ sym (map-append r tparams (underlying ∷ flat_map receiver_types methods))
  form_types_map (renamed_of pos tparams type) = sym (map-append r tparams (type ∷ []))
  form_types_map _ = refl

-- what is meant has the types of what is spelled
pub form_meant_types : {R : Type 0} (form : SpelledForm R) → form_types (form_meant form) ≡ form_types form
form_meant_types form = form_types_map pos_meant text_meant (λ type. type) form ∙ map_same (λ type. type) (λ type. refl) (form_types form)

pub generic_same : {R R' : Type 0} (r : R → R') (ts : List R) (x y : DeclTag) → generic_or (map r ts) x y ≡ generic_or ts x y
generic_same r [] x y = refl
generic_same r (t ∷ ts) x y = refl

-- ---- with the types that the typeOffs name

module _ (t : ℕ → Tree) where
  abbrev pub with_tree : SpelledType → Known
  with_tree n = record { number = n.number; pos = n.pos; tree = t n.number }

  abbrev pub with_types : FlatForm → KnownForm
  with_types form = form_map same_pos same_text with_tree form

  pub kind_same : (form : FlatForm) → kind_of_decl (with_types form) ≡ kind_of_head (whole form)
  kind_same (function_of pos tparams sig) = generic_same with_tree tparams GenericFunc Func
  kind_same (defined_of pos tparams underlying methods) = generic_same with_tree tparams GenericDefined Defined
  kind_same (renamed_of pos tparams type) = generic_same with_tree tparams GenericAlias Alias
  kind_same _ = refl

  pub numbers_same : (ts : List SpelledType) → numbers (map with_tree ts) ≡ ts
  numbers_same ts = map_twice with_tree number_of (λ (n : SpelledType). n) (λ n. refl) ts ∙ map_same (λ (n : SpelledType). n) (λ n. refl) ts

  pub sig_numbers : (sig : Sig) → numbered (sig_map same_pos same_text same_text with_tree sig) ≡ sig
  sig_numbers sig = sig_twice with_tree number_of SpelledPos SpelledText SpelledText sig ∙ sig_same SpelledPos SpelledText SpelledText sig

  pub receivers_numbers : (methods : List Receiver) → map numbered_receiver (map (receiver_map same_pos same_text with_tree) methods) ≡ methods
  receivers_numbers methods =
      map_twice (receiver_map same_pos same_text with_tree) numbered_receiver (receiver_map same_pos same_text (λ (n : SpelledType). n)) (receiver_twice with_tree number_of SpelledPos SpelledText) methods
      ∙ map_same (receiver_map same_pos same_text (λ (n : SpelledType). n)) (receiver_same SpelledPos SpelledText) methods

  -- its holder asks for this type
  abbrev pub Meets : Ask → Type 0
  Meets ask = meets ask.1 (t ask.0) ≡ true

  all_parameters : (ts : List SpelledType) → AllByRecursion Meets (asking Parameter ts) → AllByRecursion (λ (x : Known). is_parameter x.tree ≡ true) (map with_tree ts)
  all_parameters ts met = all_map (λ (x : Known). is_parameter x.tree ≡ true) with_tree ts (all_unmap Meets (λ (n : SpelledType). (n.number, Parameter)) ts met)

  pub generic_list : (a : Here) (ts : List SpelledType) (b : Here) → AreTParams a ts b → AllByRecursion Meets (asking Parameter ts) → IsGenericList a (map with_tree ts) b
  generic_list a [] b stands met = stands
  generic_list a (n ∷ ts) b stands met = (
    subst (λ (l : List SpelledType). IsList IsType a l b) (sym (numbers_same (n ∷ ts))) stands,
    (omega arith, All-from_recursion (λ (x : Known). is_parameter x.tree ≡ true) (map with_tree (n ∷ ts)) (all_parameters (n ∷ ts) met)),
  )

  right_side : (ts : List SpelledType) (n : ℕ) → meets (right_demand ts) (t n) ≡ true → IsRightSide (map with_tree ts) (t n)
  right_side [] n met = tt
  right_side (m ∷ ts) n met = not_true (is_parameter (t n)) met
    where
      not_true : (b : Bool) → not b ≡ true → b ≡ false
      not_true true e = absurd (cc)
      not_true false e = refl

  constraint : (implicit : Bool) (n : ℕ) → meets (constraint_demand implicit 0) (t n) ≡ true → implicit ≡ true → is_interface (t n) ≡ true
  constraint true n met is = met
  constraint false n met is = absurd (cc)

  -- a head that is a whole form, as a declaration's parts
  pub form_stands : (src : Sections) (basics : Basics) (a : Here) (form : FlatForm) (b : Here) → IsHeadParts src a (whole form) b → AllByRecursion Meets (head_asks (whole form)) → IsForm src basics a (with_types form) None b
  form_stands src basics a (var_of pos type) b parts met = (parts.0, parts.1, parts.2, refl)
  form_stands src basics a (function_of pos tparams sig) b parts met = (
    parts.0,
    parts.1,
    parts.2,
    generic_list parts.0 tparams parts.1 parts.3 (all_left Meets (asking Parameter tparams) (asking Any (sig_types sig)) met),
    subst (λ (x : Sig). IsSig src parts.1 x b) (sym (sig_numbers sig)) parts.4,
    refl,
  )
  form_stands src basics a (constant_of pos type value) b parts met = absurd parts
  form_stands src basics a (defined_of pos tparams underlying methods) b parts met = absurd parts
  form_stands src basics a (renamed_of pos tparams type) b parts met =
      let behind : List Ask = (type.number, right_demand tparams) ∷ [] in (
        parts.0,
        parts.1,
        parts.2,
        generic_list parts.0 tparams parts.1 parts.3 (all_left Meets (asking Parameter tparams) behind met),
        parts.4,
        right_side tparams type.number (all_right Meets (asking Parameter tparams) behind met).0,
        refl,
      )
  form_stands src basics a (type_parameter_of pos implicit bound) b parts met = (parts.0, parts.1, parts.2, parts.3, parts.4, constraint implicit bound.number met.0, refl)
