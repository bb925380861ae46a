-- The head of a declaration with its types: how it stands, and that its types are those that are asked for.
use Rattle.std.proofs.Common.{◌≡◌, ℕ, Option, None, List, [], ◌∷◌, map, Bool, true, false, not, refl, sym, ap, subst}
use Rattle.std.specs.List.{flat_map, AllByRecursion}
use Rattle.std.proofs.lemmas.List.Elements.{recursion_from_All}
use Rattle.code_tables.specs.declared.declarations.DeclTag.TheVariants.{Func, GenericFunc, Defined, GenericDefined, Alias, GenericAlias}
use Rattle.type_terms.specs.Shapes.{sig_types}
use Rattle.type_terms.specs.ShapeLaws.{sig_types_map}
use Rattle.type_terms.specs.Replaced.{all_left, all_right, all_append}
use Rattle.type_terms.specs.Trees.{Tree}
use Rattle.type_terms.specs.Declarations.{var_of, function_of, constant_of, defined_of, renamed_of, type_parameter_of, receiver_types, form_map, form_types}
use Rattle.decl_spelling.specs.declared.mention.Demand.TheVariants.{Any, Parameter, Underlying}
use Rattle.decl_spelling.specs.Sections.{Sections, Basics}
use Rattle.decl_spelling.specs.Spelled.{SpelledType}
use Rattle.decl_spelling.specs.Descent.{meets, is_parameter, is_interface}
use Rattle.decl_spelling.specs.Declarations.{FlatForm, Head, whole, of_type, of_constant, constraint_demand, has_methods}
use Rattle.decl_spelling.specs.Grammar.{Here}
use Rattle.decl_spelling.specs.Spelling.{Block, Known, Names, KnownForm, numbers, number_of, same_pos, same_text, numbered, numbered_receiver, IsMethods, IsValue, IsGenericList, IsRightSide, IsForm, kind_of_decl}
use Rattle.decl_spelling.specs.Asks.{asking}
use Rattle.decl_spelling.proofs.Took.{AreTParams, IsHeadParts, kind_of_head, right_demand, head_asks}
use Rattle.decl_spelling.proofs.AskLemmas.{IsNamed, asking_named, any_named}
use Rattle.decl_spelling.proofs.Forms.{generic_same}
use Rattle.decl_spelling.proofs.MapLemmas.{all_both}

-- by its typeOffs
abbrev pub flat_form : KnownForm → FlatForm
flat_form parts = form_map same_pos same_text number_of parts

abbrev pub head_of : KnownForm → Head
head_of (var_of pos type) = whole (var_of pos (number_of type))
head_of (function_of pos tparams sig) = whole (function_of pos (numbers tparams) (numbered sig))
head_of (constant_of pos type value) = of_constant pos (number_of type) 0
head_of (defined_of pos tparams underlying methods) = of_type pos (numbers tparams) (number_of underlying)
head_of (renamed_of pos tparams type) = whole (renamed_of pos (numbers tparams) (number_of type))
head_of (type_parameter_of pos implicit bound) = whole (type_parameter_of pos implicit (number_of bound))

-- what stands behind the head
abbrev pub IsRest : Sections → Basics → Here → KnownForm → Option ℕ → Here → Type 0
IsRest src basics a (var_of pos type) at b = (a ≡ b) × (at ≡ None)
IsRest src basics a (function_of pos tparams sig) at b = (a ≡ b) × (at ≡ None)
IsRest src basics a (constant_of pos type value) at b = IsValue src basics type.tree a (record { offset = at; value = value }) b
IsRest src basics a (defined_of pos tparams underlying methods) at b = IsMethods src (has_methods underlying.tree) a (map numbered_receiver methods) b × (at ≡ None)
IsRest src basics a (renamed_of pos tparams type) at b = (a ≡ b) × (at ≡ None)
IsRest src basics a (type_parameter_of pos implicit bound) at b = (a ≡ b) × (at ≡ None)

tparams_stand : (a : Here) (tparams : List Known) (b : Here) → IsGenericList a tparams b → AreTParams a (numbers tparams) b
tparams_stand a [] b stands = stands
tparams_stand a (t ∷ ts) b stands = stands.0

pub head_stands : (src : Sections) (basics : Basics) (a : Here) (parts : KnownForm) (at : Option ℕ) (b : Here) → IsForm src basics a parts at b → (mid : Here) × IsHeadParts src a (head_of parts) mid × IsRest src basics mid parts at b
head_stands src basics a (var_of pos type) at b stands = (b, (stands.0, stands.1, stands.2), (refl, stands.3))
head_stands src basics a (function_of pos tparams sig) at b stands = (b, (stands.0, stands.1, stands.2, tparams_stand stands.0 tparams stands.1 stands.3, stands.4), (refl, stands.5))
head_stands src basics a (constant_of pos type value) at b stands = (stands.1, (stands.0, stands.2, stands.3), stands.4)
head_stands src basics a (defined_of pos tparams underlying methods) at b stands = (stands.2, (stands.0, stands.1, stands.3, tparams_stand stands.0 tparams stands.1 stands.4, stands.5), (stands.7, stands.8))
head_stands src basics a (renamed_of pos tparams type) at b stands = (b, (stands.0, stands.1, stands.2, tparams_stand stands.0 tparams stands.1 stands.3, stands.4), (refl, stands.6))
head_stands src basics a (type_parameter_of pos implicit bound) at b stands = (b, (stands.0, stands.1, stands.2, stands.3, stands.4), (refl, stands.6))

pub head_kind : (parts : KnownForm) → kind_of_head (head_of parts) ≡ kind_of_decl parts
head_kind (function_of pos tparams sig) = generic_same number_of tparams GenericFunc Func
head_kind (defined_of pos tparams underlying methods) = generic_same number_of tparams GenericDefined Defined
head_kind (renamed_of pos tparams type) = generic_same number_of tparams GenericAlias Alias
head_kind _ = refl

-- ---- its types

module _ (src : Sections) (all : List Block) (holder : ℕ) where
  tparams_named : (a : Here) (tparams : List Known) (b : Here) → IsGenericList a tparams b → AllByRecursion (Names src all holder) tparams → AllByRecursion (IsNamed src all holder) (asking Parameter (numbers tparams))
  tparams_named a [] b stands named = tt
  tparams_named a (t ∷ ts) b stands named =
      asking_named src all holder Parameter (t ∷ ts)
      (all_both (Names src all holder) (λ (x : Known). is_parameter x.tree ≡ true) (λ x. Names src all holder x × (meets Parameter x.tree ≡ true)) (λ x known met. (known, met)) (t ∷ ts) named
      (recursion_from_All (λ (x : Known). is_parameter x.tree ≡ true) (t ∷ ts) stands.1.1))

  right_met : (tparams : List Known) (tree : Tree) → IsRightSide tparams tree → meets (right_demand (numbers tparams)) tree ≡ true
  right_met [] tree right = refl
  right_met (t ∷ ts) tree right = ap not right

  bound_met : (implicit : Bool) (tree : Tree) → (implicit ≡ true → is_interface tree ≡ true) → meets (constraint_demand implicit 0) tree ≡ true
  bound_met true tree met = met refl
  bound_met false tree met = refl

  pub head_named : (basics : Basics) (a : Here) (parts : KnownForm) (at : Option ℕ) (b : Here) → IsForm src basics a parts at b → AllByRecursion (Names src all holder) (form_types parts) → AllByRecursion (IsNamed src all holder) (head_asks (head_of parts))
  head_named basics a (var_of pos type) at b stands named = any_named src all holder (type ∷ []) named
  head_named basics a (function_of pos tparams sig) at b stands named =
      let types : sig_types (numbered sig) ≡ map number_of (sig_types sig) = sig_types_map same_pos same_text same_text number_of sig in
      all_append (IsNamed src all holder) (asking Parameter (numbers tparams)) (asking Any (sig_types (numbered sig)))
      (tparams_named stands.0 tparams stands.1 stands.3 (all_left (Names src all holder) tparams (sig_types sig) named))
      (subst (λ (ns : List SpelledType). AllByRecursion (IsNamed src all holder) (asking Any ns)) (sym types) (any_named src all holder (sig_types sig) (all_right (Names src all holder) tparams (sig_types sig) named)))
  head_named basics a (constant_of pos type value) at b stands named = any_named src all holder (type ∷ []) named
  head_named basics a (defined_of pos tparams underlying methods) at b stands named =
      let behind : List Known = underlying ∷ flat_map receiver_types methods in
      all_append (IsNamed src all holder) (asking Parameter (numbers tparams)) ((underlying.number, Underlying) ∷ [])
      (tparams_named stands.0 tparams stands.1 stands.4 (all_left (Names src all holder) tparams behind named)) ((underlying, (all_right (Names src all holder) tparams behind named).0, refl, stands.6), tt)
  head_named basics a (renamed_of pos tparams type) at b stands named =
      all_append (IsNamed src all holder) (asking Parameter (numbers tparams)) ((type.number, right_demand (numbers tparams)) ∷ [])
      (tparams_named stands.0 tparams stands.1 stands.3 (all_left (Names src all holder) tparams (type ∷ []) named))
      ((type, (all_right (Names src all holder) tparams (type ∷ []) named).0, refl, right_met tparams type.tree stands.5), tt)
  head_named basics a (type_parameter_of pos implicit bound) at b stands named = ((bound, named.0, refl, bound_met implicit bound.tree stands.5), tt)
