-- A replacement goes by levels, and leaves what it has nothing for.
use Rattle.std.proofs.Common.{◌≡◌, ℕ, ◌<◌, zero, suc, Bool, true, false, cond, List, [], ◌∷◌, map, slice_get, Some, refl, ap, sym, subst, ◌∙◌, arith}
use Rattle.std.specs.List.{Contains, AllByRecursion}
use Rattle.std.proofs.lemmas.List.Elements.{Contains-append_right, Contains-get_or}
use Rattle.go_values.specs.declared.qualified.QName.{QName}
use Rattle.go_values.specs.declared.positions.Pos.{Pos}
use Rattle.go_values.specs.Exact.{exact_qname}
use Rattle.type_terms.specs.Shapes.{MethodOf, SigOf, parameter_of, func_of, struct_of, interface_of, instance_of, union_of, param_map, sig_map, field_map, method_map, term_map, shape_types, retype}
use Rattle.type_terms.specs.ShapeLaws.{retype_agrees}
use Rattle.type_terms.specs.Trees.{Text, Tree, parameter, func, struct, interface, instance, union, Trees, no_types, types, Params, no_params, params, Fields, no_fields, fields, Methods, no_methods, methods, Terms, no_terms, terms, Level, level_of, tree_of, types_of, params_of, fields_of, methods_of, terms_of, type_list, param_list, field_list, method_list, term_list}
use Rattle.type_terms.specs.TreeLevels.{tree_of-level_of}
use Rattle.type_terms.specs.TreeEquality.{same_name}
use Rattle.type_terms.specs.Parts.{parts, tree_size, Within, itself, inside}
use Rattle.type_terms.specs.TreeSizes.{part_falls}
use Rattle.replacement.specs.Substitution.{argument, replaced, types_replaced, params_replaced, fields_replaced, methods_replaced, terms_replaced, substituted, level_replaced}
use Rattle.replacement.proofs.ListLemmas.{all_if, map_itself}

module _ (put : QName → Tree) where
  types_level : (xs : Trees) → types_replaced put xs ≡ types_of (map (replaced put) (type_list xs))
  types_level no_types = refl
  types_level (types type rest) = ap (types (replaced put type)) (types_level rest)

  params_level : (xs : Params) → params_replaced put xs ≡ params_of (map (param_map (λ (x : Pos). x) (λ (x : Text). x) (λ (x : Text). x) (replaced put)) (param_list xs))
  params_level no_params = refl
  params_level (params pos name type rest) = ap (params pos name (replaced put type)) (params_level rest)

  fields_level : (xs : Fields) → fields_replaced put xs ≡ fields_of (map (field_map (λ (x : Pos). x) (λ (x : Text). x) (λ (x : Text). x) (replaced put)) (field_list xs))
  fields_level no_fields = refl
  fields_level (fields origin pos name type embedded tag rest) = ap (fields origin pos name (replaced put type) embedded tag) (fields_level rest)

  methods_level : (xs : Methods) → methods_replaced put xs ≡ methods_of (map (method_map (λ (x : Pos). x) (λ (x : Text). x) (λ (x : Text). x) (replaced put)) (method_list xs))
  methods_level no_methods = refl
  methods_level (methods origin pos name ins outs variadic rest) = λ i. methods origin pos name (params_level ins i) (params_level outs i) variadic (methods_level rest i)

  terms_level : (xs : Terms) → terms_replaced put xs ≡ terms_of (map (term_map (λ (x : Pos). x) (λ (x : Text). x) (λ (x : Text). x) (replaced put)) (term_list xs))
  terms_level no_terms = refl
  terms_level (terms tilde type rest) = ap (terms tilde (replaced put type)) (terms_level rest)

  pub replaced_by_level : (type : Tree) → replaced put type ≡ level_replaced put (level_of type)
  replaced_by_level (func home ins outs variadic) = λ i. func home (params_level ins i) (params_level outs i) variadic
  replaced_by_level (struct home inner) = ap (struct home) (fields_level inner)
  replaced_by_level (interface home embedded inner) = λ i. interface home (types_level embedded i) (methods_level inner i)
  replaced_by_level (instance base args) = ap (instance (replaced put base)) (types_level args)
  replaced_by_level (union inner) = ap union (terms_level inner)
  replaced_by_level _ = refl

-- a shape whose types stay is the same
sig_itself : (x : SigOf Pos Text Tree) → sig_map (λ (x : Pos). x) (λ (x : Text). x) (λ (x : Text). x) (λ (x : Tree). x) x ≡ x
sig_itself x = λ i. record { params = map_itself _ (λ x. refl) x.params i; results = map_itself _ (λ x. refl) x.results i; variadic = x.variadic }

method_itself : (x : MethodOf Pos Text Text Tree) → method_map (λ (x : Pos). x) (λ (x : Text). x) (λ (x : Text). x) (λ (x : Tree). x) x ≡ x
method_itself x = λ i. record { origin = x.origin; pos = x.pos; name = x.name; sig = sig_itself x.sig i }

retype_itself : (level : Level) → retype (λ (x : Tree). x) level ≡ level
retype_itself (func_of home sig) = ap (func_of home) (sig_itself sig)
retype_itself (struct_of home inner) = ap (struct_of home) (map_itself _ (λ x. refl) inner)
retype_itself (interface_of home embedded inner) = λ i. interface_of home (map_itself (λ (x : Tree). x) (λ x. refl) embedded i) (map_itself _ method_itself inner i)
retype_itself (instance_of base args) = ap (instance_of base) (map_itself (λ (x : Tree). x) (λ x. refl) args)
retype_itself (union_of inner) = ap union_of (map_itself _ (λ x. refl) inner)
retype_itself _ = refl

-- a level stays whose types stay
level_stays : (put : QName → Tree) (level : Level) → AllByRecursion (λ part. replaced put part ≡ part) (shape_types level) → ((q : QName) → level ≡ parameter_of q.name q.path → put q ≡ parameter q) → level_replaced put level ≡ tree_of level
level_stays put (parameter_of name path) all own = own (record { path = path; name = name }) refl
level_stays put level all own = ap tree_of (retype_agrees (replaced put) (λ (x : Tree). x) Pos Text Text level all ∙ retype_itself level)

stays_below : (put : QName → Tree) (bound : ℕ) (type : Tree) → tree_size type < bound → ((q : QName) → Within type (parameter q) → put q ≡ parameter q) → replaced put type ≡ type
stays_below put zero type below same = absurd (omega arith)
stays_below put (suc bound) type below same =
    let each = all_if (λ part. replaced put part ≡ part) (parts type)
    (λ part held. let less = part_falls type part held in stays_below put bound part (omega (arith, less)) (λ q within. same q (inside type part (parameter q) held within))) in
    let own = λ (q : QName) (is : level_of type ≡ parameter_of q.name q.path).
    let whole : type ≡ parameter q = sym (tree_of-level_of type) ∙ ap tree_of is in
    same q (subst (λ t. Within t (parameter q)) (sym whole) (itself (parameter q))) in
    replaced_by_level put type ∙ level_stays put (level_of type) each own ∙ tree_of-level_of type

-- A type stays in which no parameter has anything else put for it.
pub replaced_stays : (put : QName → Tree) (type : Tree) → ((q : QName) → Within type (parameter q) → put q ≡ parameter q) → replaced put type ≡ type
replaced_stays put type same = stays_below put (suc (tree_size type)) type (omega arith) same

-- a parameter of another name stands for itself
other_argument : (ps : List QName) (args : List Tree) (q : QName) → (Contains ps q → ⊥) → argument ps args q ≡ parameter q
other_argument [] args q other = refl
other_argument (p ∷ ps) [] q other = refl
other_argument (p ∷ ps) (arg ∷ args) q other = by (same_name q p) refl (other_argument ps args q (λ held. other (Contains-append_right (p ∷ []) ps q held)))
  where
    by : (b : Bool) → same_name q p ≡ b → argument ps args q ≡ parameter q → cond b arg (argument ps args q) ≡ parameter q
    by true e rest =
        let same : q ≡ p = exact_qname q p e in
        absurd (other (subst (Contains (p ∷ ps)) (sym same) (Contains-get_or (p ∷ ps) 0 p (omega arith))))
    by false e rest = rest

pub others_stay : (ps : List QName) (args : List Tree) (type : Tree) → ((q : QName) → Within type (parameter q) → Contains ps q → ⊥) → substituted ps args type ≡ type
others_stay ps args type apart = replaced_stays (argument ps args) type (λ q within. other_argument ps args q (apart q within))

-- two replacements that put the same for each parameter of a type are alike
level_agrees : (put other : QName → Tree) (level : Level) → AllByRecursion (λ part. replaced put part ≡ replaced other part) (shape_types level) → ((q : QName) → level ≡ parameter_of q.name q.path → put q ≡ other q) → level_replaced put level ≡ level_replaced other level
level_agrees put other (parameter_of name path) all own = own (record { path = path; name = name }) refl
level_agrees put other level all own = ap tree_of (retype_agrees (replaced put) (replaced other) Pos Text Text level all)

agrees_below : (put other : QName → Tree) (bound : ℕ) (type : Tree) → tree_size type < bound → ((q : QName) → Within type (parameter q) → put q ≡ other q) → replaced put type ≡ replaced other type
agrees_below put other zero type below same = absurd (omega arith)
agrees_below put other (suc bound) type below same =
    let each = all_if (λ part. replaced put part ≡ replaced other part) (parts type)
    (λ part held. let less = part_falls type part held in agrees_below put other bound part (omega (arith, less)) (λ q within. same q (inside type part (parameter q) held within))) in
    let own = λ (q : QName) (is : level_of type ≡ parameter_of q.name q.path).
    let whole : type ≡ parameter q = sym (tree_of-level_of type) ∙ ap tree_of is in
    same q (subst (λ t. Within t (parameter q)) (sym whole) (itself (parameter q))) in
    replaced_by_level put type ∙ level_agrees put other (level_of type) each own ∙ sym (replaced_by_level other type)

pub replaced_agrees : (put other : QName → Tree) (type : Tree) → ((q : QName) → Within type (parameter q) → put q ≡ other q) → replaced put type ≡ replaced other type
replaced_agrees put other type same = agrees_below put other (suc (tree_size type)) type (omega arith) same

pub first_argument : (p : QName) (ps : List QName) (arg : Tree) (args : List Tree) → same_name p p ≡ true → argument (p ∷ ps) (arg ∷ args) p ≡ arg
first_argument p ps arg args same = ap (λ b. cond b arg (argument ps args p)) same

-- the first parameter of the name tells the argument
pub argument_at : (ps : List QName) (args : List Tree) (q : QName) (k : ℕ) (p : QName) (arg : Tree) → slice_get ps k ≡ Some p → slice_get args k ≡ Some arg → same_name q p ≡ true
    → ((j : ℕ) (other : QName) → j < k → slice_get ps j ≡ Some other → same_name q other ≡ false) → argument ps args q ≡ arg
argument_at [] args q k p arg at there same before = absurd cc
argument_at (first ∷ ps) [] q k p arg at there same before = absurd cc
argument_at (first ∷ ps) (own ∷ args) q zero p arg at there same before =
    let equal : first ≡ p = cc in
    let alike : own ≡ arg = cc in
    ap (λ b. cond b own (argument ps args q)) (subst (λ n. same_name q n ≡ true) (sym equal) same) ∙ alike
argument_at (first ∷ ps) (own ∷ args) q (suc k) p arg at there same before =
    ap (λ b. cond b own (argument ps args q)) (before 0 first (omega arith) refl)
    ∙ argument_at ps args q k p arg at there same (λ j other below here. before (suc j) other (omega arith) here)

pub argument_none : (ps : List QName) (args : List Tree) (q : QName) → ((j : ℕ) (other : QName) → slice_get ps j ≡ Some other → same_name q other ≡ false) → argument ps args q ≡ parameter q
argument_none [] args q none = refl
argument_none (first ∷ ps) [] q none = refl
argument_none (first ∷ ps) (own ∷ args) q none =
    ap (λ b. cond b own (argument ps args q)) (none 0 first refl) ∙ argument_none ps args q (λ j other here. none (suc j) other here)
