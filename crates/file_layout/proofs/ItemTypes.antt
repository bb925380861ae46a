-- The types among the items of a descriptor or a declaration are its types.
use Rattle.std.proofs.Common.{◌≡◌, Bool, true, false, List, [], ◌∷◌, ◌++◌, refl, sym, ap, ap₂, ◌∙◌}
use Rattle.std.specs.List.{flat_map}
use Rattle.std.proofs.lemmas.List.Concat.{flat_map-append}
use Rattle.go_values.specs.declared.positions.Pos.{Pos}
use Rattle.go_values.specs.declared.constants.Const.{Const}
use Rattle.go_values.specs.declared.constants.Const.TheVariants.{Bool as truth, Int as whole, Str as chars}
use Rattle.type_terms.specs.Shapes.{ParamOf, SigOf, func_of, struct_of, interface_of, instance_of, union_of, param_types, sig_types, field_types, method_types, term_types, shape_types}
use Rattle.type_terms.specs.Replaced.{singles}
use Rattle.type_terms.specs.Trees.{Text, Tree, Level}
use Rattle.type_terms.specs.Declarations.{ReceiverOf, var_of, function_of, constant_of, defined_of, renamed_of, type_parameter_of, receiver_types, form_types, Decl}
use Rattle.decl_spelling.specs.Sections.{Basics}
use Rattle.decl_spelling.specs.Constants.{flag, offset, number, Kind, spelled, floating, none, basic_type}
use Rattle.decl_spelling.specs.Declarations.{has_methods}
use Rattle.file_layout.specs.Items.{Item, a_type, list_items, type_items, param_items, variadic_items, sig_items, field_items, method_items, embedded_items, term_items, level_items, generic_items, receiver_items, methods_items, constant_kind, value_items, decl_items}

abbrev pub item_types : Item → List Tree
item_types (a_type type) = type ∷ []
item_types _ = []

abbrev pub items_types : List Item → List Tree
items_types xs = flat_map item_types xs

joined : (xs ys : List Item) → items_types (xs ++ ys) ≡ items_types xs ++ items_types ys
joined xs ys = flat_map-append item_types xs ys

-- the types of a list's elements
each_types : {X : Type 0} (items : X → List Item) (types : X → List Tree) → ((x : X) → items_types (items x) ≡ types x) → (xs : List X) → items_types (flat_map items xs) ≡ flat_map types xs
each_types items types each [] = refl
each_types items types each (x ∷ xs) = joined (items x) (flat_map items xs) ∙ ap₂ (λ (a b : List Tree). a ++ b) (each x) (each_types items types each xs)

params_types : (xs : List (ParamOf Pos Text Tree)) → items_types (list_items param_items xs) ≡ flat_map param_types xs
params_types = each_types param_items param_types (λ x. refl)

no_variadic : (params : List (ParamOf Pos Text Tree)) (variadic : Bool) → items_types (variadic_items params variadic) ≡ []
no_variadic [] variadic = refl
no_variadic (x ∷ xs) variadic = refl

nothing_behind : (xs : List Tree) → xs ++ [] ≡ xs
nothing_behind [] = refl
nothing_behind (x ∷ xs) = ap (λ (rest : List Tree). x ∷ rest) (nothing_behind xs)

sig_is : (sig : SigOf Pos Text Tree) → items_types (sig_items sig) ≡ sig_types sig
sig_is sig =
    joined (list_items param_items sig.params) (list_items param_items sig.results ++ variadic_items sig.params sig.variadic)
    ∙ ap₂ (λ (a b : List Tree). a ++ b) (params_types sig.params)
    (joined (list_items param_items sig.results) (variadic_items sig.params sig.variadic)
    ∙ ap₂ (λ (a b : List Tree). a ++ b) (params_types sig.results) (no_variadic sig.params sig.variadic) ∙ nothing_behind (flat_map param_types sig.results))

types_are : (xs : List Tree) → items_types (list_items type_items xs) ≡ xs
types_are xs = each_types type_items (λ (t : Tree). t ∷ []) (λ x. refl) xs ∙ singles xs

embedded_are : (xs : List Tree) → items_types (list_items embedded_items xs) ≡ xs
embedded_are xs = each_types embedded_items (λ (t : Tree). t ∷ []) (λ x. refl) xs ∙ singles xs

pub level_types : (level : Level) → items_types (level_items level) ≡ shape_types level
level_types (func_of home sig) = sig_is sig
level_types (struct_of home fields) = each_types field_items field_types (λ x. refl) fields
level_types (interface_of home embedded methods) =
    joined (list_items embedded_items embedded) (list_items method_items methods)
    ∙ ap₂ (λ (a b : List Tree). a ++ b) (embedded_are embedded) (each_types method_items method_types (λ x. sig_is x.sig) methods)
level_types (instance_of base args) = joined (list_items type_items args) (a_type base ∷ []) ∙ ap (λ (a : List Tree). a ++ base ∷ []) (types_are args)
level_types (union_of terms) = each_types term_items term_types (λ x. refl) terms
level_types _ = refl

generic_are : (tparams : List Tree) → items_types (generic_items tparams) ≡ tparams
generic_are [] = refl
generic_are (t ∷ ts) = types_are (t ∷ ts)

receiver_are : (x : ReceiverOf Pos Text Tree) → items_types (receiver_items x) ≡ receiver_types x
receiver_are x = ap (λ (rest : List Tree). x.recv.type ∷ rest) (sig_is x.sig)

methods_are : (has : Bool) (methods : List (ReceiverOf Pos Text Tree)) → (has ≡ false → methods ≡ []) → items_types (methods_items has methods) ≡ flat_map receiver_types methods
methods_are true methods missing = each_types receiver_items receiver_types receiver_are methods
methods_are false methods missing = sym (ap (flat_map receiver_types) (missing refl))

no_value : (kind : Kind) (value : Const) → items_types (value_items kind value) ≡ []
no_value (spelled flag) (truth x) = refl
no_value (spelled flag) (whole x) = refl
no_value (spelled flag) (chars x) = refl
no_value (spelled offset) (truth x) = refl
no_value (spelled offset) (whole x) = refl
no_value (spelled offset) (chars x) = refl
no_value (spelled (number signed max)) (truth x) = refl
no_value (spelled (number signed max)) (whole x) = refl
no_value (spelled (number signed max)) (chars x) = refl
no_value floating value = refl
no_value none value = refl

-- a declaration whose type has no methods has none
abbrev pub HasMethodsOf : Decl → Type 0
HasMethodsOf (defined_of pos tparams underlying methods) = has_methods underlying ≡ false → methods ≡ []
HasMethodsOf _ = Unit {0}

pub decl_types : (basics : Basics) (decl : Decl) → HasMethodsOf decl → items_types (decl_items basics decl) ≡ form_types decl
decl_types basics (var_of pos type) has = refl
decl_types basics (function_of pos tparams sig) has = joined (generic_items tparams) (sig_items sig) ∙ ap₂ (λ (a b : List Tree). a ++ b) (generic_are tparams) (sig_is sig)
decl_types basics (constant_of pos type value) has = ap (λ (rest : List Tree). type ∷ rest) (no_value (constant_kind (basic_type basics type)) value)
decl_types basics (defined_of pos tparams underlying methods) has =
    joined (generic_items tparams) (a_type underlying ∷ methods_items (has_methods underlying) methods)
    ∙ ap₂ (λ (a b : List Tree). a ++ underlying ∷ b) (generic_are tparams) (methods_are (has_methods underlying) methods has)
decl_types basics (renamed_of pos tparams type) has = joined (generic_items tparams) (a_type type ∷ []) ∙ ap (λ (a : List Tree). a ++ type ∷ []) (generic_are tparams)
decl_types basics (type_parameter_of pos implicit constraint) has = refl
