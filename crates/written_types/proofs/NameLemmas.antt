-- What is written of a type refers to what the type refers to.
use Rattle.std.proofs.Common.{◌≡◌, ℕ, zero, suc, ◌+◌, Bool, true, false, cond, List, [], ◌∷◌, ◌++◌, map, ◌⊎◌, inl, inr, refl, sym, ap, subst, ◌∙◌, arith}
use Rattle.std.specs.List.{Contains, flat_map}
use Rattle.std.proofs.lemmas.List.Elements.{Contains-append_left, Contains-append_right, Contains-append_cases}
use Rattle.go_values.specs.declared.positions.Pos.{Pos}
use Rattle.go_values.specs.declared.qualified.QName.{QName}
use Rattle.std.proofs.lemmas.List.{map-append}
use Rattle.type_terms.specs.Shapes.{sig_types}
use Rattle.type_terms.specs.ShapeLaws.{sig_types_map}
use Rattle.type_terms.specs.Replaced.{parts_of_map}
use Rattle.type_terms.specs.Trees.{Text, Tree, predeclared, named, parameter, alias, pointer, slice, array, chan, map_type, func, struct, interface, instance, union, Trees, no_types, types, Params, no_params, params, Fields, no_fields, fields, Methods, no_methods, methods, Terms, no_terms, terms, param_list, params_of, method_list, methods_of}
use Rattle.type_terms.specs.Declarations.{Decl, ReceiverOf, form_map, function_of, defined_of, renamed_of, receiver_map, form_types, receiver_types}
use Rattle.environments.specs.References.{tree_references, base_references, types_references, params_references, fields_references, methods_references, terms_references, argument_count, references, reference_names}
use Rattle.environments.specs.declared.mentions.Reference.{Reference}
use Rattle.written_types.specs.ByName.{Method, is_before, with_method, by_name}
use Rattle.written_types.specs.Written.{Target, position_written, element, written, types_written, elements_written, params_written, fields_written, methods_written, terms_written, decl_written}

module _ {X : Type 0} where
  -- the same members
  abbrev pub Same : List X → List X → Type 0
  Same xs ys = (x : X) → (Contains xs x → Contains ys x) × (Contains ys x → Contains xs x)

  itself : (xs : List X) → Same xs xs
  itself xs x = (λ has. has, λ has. has)

  in_turn : (xs ys zs : List X) → Same xs ys → Same ys zs → Same xs zs
  in_turn xs ys zs first second x = (λ has. (second x).0 ((first x).0 has), λ has. (first x).1 ((second x).1 has))

  inside : (a b c d : List X) → ((x : X) → Contains a x → Contains b x) → ((x : X) → Contains c x → Contains d x) → (x : X) → Contains (a ++ c) x → Contains (b ++ d) x
  inside a b c d left right x has = by_place (Contains-append_cases a c x has)
    where
      by_place : Contains a x ⊎ Contains c x → Contains (b ++ d) x
      by_place (inl here) = Contains-append_left b d x (left x here)
      by_place (inr here) = Contains-append_right b d x (right x here)

  pub joined : (a b c d : List X) → Same a b → Same c d → Same (a ++ c) (b ++ d)
  joined a b c d left right x =
      (inside a b c d (λ y. (left y).0) (λ y. (right y).0) x, inside b a d c (λ y. (left y).1) (λ y. (right y).1) x)

  swapped : (a b c : List X) (x : X) → Contains (a ++ (b ++ c)) x → Contains (b ++ (a ++ c)) x
  swapped a b c x has = by_place (Contains-append_cases a (b ++ c) x has)
    where
      by_rest : Contains b x ⊎ Contains c x → Contains (b ++ (a ++ c)) x
      by_rest (inl here) = Contains-append_left b (a ++ c) x here
      by_rest (inr here) = Contains-append_right b (a ++ c) x (Contains-append_right a c x here)

      by_place : Contains a x ⊎ Contains (b ++ c) x → Contains (b ++ (a ++ c)) x
      by_place (inl here) = Contains-append_right b (a ++ c) x (Contains-append_left a c x here)
      by_place (inr here) = by_rest (Contains-append_cases b c x here)

  swap : (a b c : List X) → Same (a ++ (b ++ c)) (b ++ (a ++ c))
  swap a b c x = (swapped a b c x, swapped b a c x)

-- ---- methods in another order

abbrev Refs : Type 0
Refs = List Reference

abbrev method_refs : Method → Refs
method_refs x = params_references (params_of x.sig.params) ++ params_references (params_of x.sig.results)

abbrev all_refs : List Method → Refs
all_refs xs = methods_references (methods_of xs)

with_refs : (x : Method) (ys : List Method) → Same (all_refs (with_method x ys)) (method_refs x ++ all_refs ys)
with_refs x [] = itself (method_refs x ++ [])
with_refs x (y ∷ ys) = by_test (is_before y x) (with_refs x ys)
  where
    by_test : (b : Bool) → Same (all_refs (with_method x ys)) (method_refs x ++ all_refs ys) → Same (all_refs (cond b (y ∷ with_method x ys) (x ∷ y ∷ ys))) (method_refs x ++ all_refs (y ∷ ys))
    by_test true rest =
        in_turn (method_refs y ++ all_refs (with_method x ys)) (method_refs y ++ (method_refs x ++ all_refs ys)) (method_refs x ++ (method_refs y ++ all_refs ys))
        (joined (method_refs y) (method_refs y) (all_refs (with_method x ys)) (method_refs x ++ all_refs ys) (itself (method_refs y)) rest) (swap (method_refs y) (method_refs x) (all_refs ys))
    by_test false rest = itself (method_refs x ++ all_refs (y ∷ ys))

by_name_refs : (xs : List Method) → Same (all_refs (by_name xs)) (all_refs xs)
by_name_refs [] = itself []
by_name_refs (x ∷ xs) =
    in_turn (all_refs (with_method x (by_name xs))) (method_refs x ++ all_refs (by_name xs)) (method_refs x ++ all_refs xs) (with_refs x (by_name xs))
    (joined (method_refs x) (method_refs x) (all_refs (by_name xs)) (all_refs xs) (itself (method_refs x)) (by_name_refs xs))

params_back : (xs : Params) → params_references (params_of (param_list xs)) ≡ params_references xs
params_back no_params = refl
params_back (params pos name type rest) = ap (λ (more : Refs). tree_references type ++ more) (params_back rest)

methods_back : (xs : Methods) → all_refs (method_list xs) ≡ methods_references xs
methods_back no_methods = refl
methods_back (methods origin pos name ins outs variadic rest) = λ i. (params_back ins i ++ params_back outs i) ++ methods_back rest i

-- ---- types

arguments_stay : (target : Target) (xs : Trees) → argument_count (types_written target xs) ≡ argument_count xs
arguments_stay target no_types = refl
arguments_stay target (types type rest) = ap (λ (n : ℕ). 1 + n) (arguments_stay target rest)

single : (xs : Refs) → Same xs (xs ++ [])
single xs x = (λ has. Contains-append_left xs [] x has, λ has. by_place x (Contains-append_cases xs [] x has))
  where
    by_place : (x : Reference) → Contains xs x ⊎ Contains [] x → Contains xs x
    by_place x (inl has) = has
    by_place x (inr has) = absurd (omega (arith, has.1))

element_refs : (type : Tree) → Same (tree_references (element type)) (tree_references type)
element_refs (union (terms false type no_terms)) = single (tree_references type)
element_refs (union (terms true type no_terms)) = itself (tree_references type ++ [])
element_refs (union (terms true type (terms other second rest))) = itself (tree_references (union (terms true type (terms other second rest))))
element_refs (union (terms false type (terms other second rest))) = itself (tree_references (union (terms false type (terms other second rest))))
element_refs (union no_terms) = itself []
element_refs (predeclared basic) = itself []
element_refs (named q) = itself (tree_references (named q))
element_refs (parameter q) = itself (tree_references (parameter q))
element_refs (alias q) = itself (tree_references (alias q))
element_refs (pointer type) = itself (tree_references type)
element_refs (slice type) = itself (tree_references type)
element_refs (array size type) = itself (tree_references type)
element_refs (chan dir type) = itself (tree_references type)
element_refs (map_type key type) = itself (tree_references (map_type key type))
element_refs (func home ins outs variadic) = itself (tree_references (func home ins outs variadic))
element_refs (struct home inner) = itself (fields_references inner)
element_refs (interface home embedded inner) = itself (tree_references (interface home embedded inner))
element_refs (instance base args) = itself (tree_references (instance base args))

ordered : (xs : Methods) (refs : Refs) → Same (methods_references xs) refs → Same (methods_references (methods_of (by_name (method_list xs)))) refs
ordered xs refs same =
    in_turn (all_refs (by_name (method_list xs))) (all_refs (method_list xs)) refs (by_name_refs (method_list xs)) (subst (λ (r : Refs). Same r refs) (sym (methods_back xs)) same)

mutual
  pub same_refs : (target : Target) (type : Tree) → Same (tree_references (written target type)) (tree_references type)
  same_refs target (predeclared basic) = itself []
  same_refs target (named q) = itself (tree_references (named q))
  same_refs target (parameter q) = itself (tree_references (parameter q))
  same_refs target (alias q) = itself (tree_references (alias q))
  same_refs target (pointer type) = same_refs target type
  same_refs target (slice type) = same_refs target type
  same_refs target (array size type) = same_refs target type
  same_refs target (chan dir type) = same_refs target type
  same_refs target (map_type key type) = joined (tree_references (written target key)) (tree_references key) (tree_references (written target type)) (tree_references type) (same_refs target key) (same_refs target type)
  same_refs target (func home ins outs variadic) = joined (params_references (params_written target ins)) (params_references ins) (params_references (params_written target outs)) (params_references outs) (same_params target ins) (same_params target outs)
  same_refs target (struct home inner) = same_fields target inner
  same_refs target (interface home embedded inner) =
      joined (types_references (elements_written target embedded)) (types_references embedded) (methods_references (methods_of (by_name (method_list (methods_written target inner))))) (methods_references inner)
      (same_elements target embedded) (ordered (methods_written target inner) (methods_references inner) (same_methods target inner))
  same_refs target (instance base args) =
      joined (types_references (types_written target args)) (types_references args) (base_references base (argument_count (types_written target args))) (base_references base (argument_count args)) (same_types target args)
      (subst (λ (n : ℕ). Same (base_references base n) (base_references base (argument_count args))) (sym (arguments_stay target args)) (itself (base_references base (argument_count args))))
  same_refs target (union inner) = same_terms target inner

  same_types : (target : Target) (xs : Trees) → Same (types_references (types_written target xs)) (types_references xs)
  same_types target no_types = itself []
  same_types target (types type rest) = joined (tree_references (written target type)) (tree_references type) (types_references (types_written target rest)) (types_references rest) (same_refs target type) (same_types target rest)

  same_elements : (target : Target) (xs : Trees) → Same (types_references (elements_written target xs)) (types_references xs)
  same_elements target no_types = itself []
  same_elements target (types type rest) =
      joined (tree_references (element (written target type))) (tree_references type) (types_references (elements_written target rest)) (types_references rest)
      (in_turn (tree_references (element (written target type))) (tree_references (written target type)) (tree_references type) (element_refs (written target type)) (same_refs target type)) (same_elements target rest)

  same_params : (target : Target) (xs : Params) → Same (params_references (params_written target xs)) (params_references xs)
  same_params target no_params = itself []
  same_params target (params pos name type rest) = joined (tree_references (written target type)) (tree_references type) (params_references (params_written target rest)) (params_references rest) (same_refs target type) (same_params target rest)

  same_fields : (target : Target) (xs : Fields) → Same (fields_references (fields_written target xs)) (fields_references xs)
  same_fields target no_fields = itself []
  same_fields target (fields origin pos name type embedded tag rest) =
      joined (tree_references (written target type)) (tree_references type) (fields_references (fields_written target rest)) (fields_references rest) (same_refs target type) (same_fields target rest)

  same_methods : (target : Target) (xs : Methods) → Same (methods_references (methods_written target xs)) (methods_references xs)
  same_methods target no_methods = itself []
  same_methods target (methods origin pos name ins outs variadic rest) =
      joined (params_references (params_written target ins) ++ params_references (params_written target outs)) (params_references ins ++ params_references outs) (methods_references (methods_written target rest)) (methods_references rest)
      (joined (params_references (params_written target ins)) (params_references ins) (params_references (params_written target outs)) (params_references outs) (same_params target ins) (same_params target outs)) (same_methods target rest)

  same_terms : (target : Target) (xs : Terms) → Same (terms_references (terms_written target xs)) (terms_references xs)
  same_terms target no_terms = itself []
  same_terms target (terms tilde type rest) = joined (tree_references (written target type)) (tree_references type) (terms_references (terms_written target rest)) (terms_references rest) (same_refs target type) (same_terms target rest)

-- ---- declarations

abbrev same_text : Text → Text
same_text text = text

module _ (r : Tree → Tree) where
  receivers_types : (xs : List (ReceiverOf Pos Text Tree)) → flat_map receiver_types (map (receiver_map position_written same_text r) xs) ≡ map r (flat_map receiver_types xs)
  receivers_types = parts_of_map (receiver_map position_written same_text r) r receiver_types receiver_types (λ x. ap (λ (rest : List Tree). r x.recv.type ∷ rest) (sig_types_map position_written same_text same_text r x.sig))

  pub types_of_form : (form : Decl) → form_types (form_map position_written same_text r form) ≡ map r (form_types form)
  types_of_form (function_of pos tparams sig) = ap (λ (rest : List Tree). map r tparams ++ rest) (sig_types_map position_written same_text same_text r sig) ∙ sym (map-append r tparams (sig_types sig))
  types_of_form (defined_of pos tparams underlying own) =
      ap (λ (rest : List Tree). map r tparams ++ r underlying ∷ rest) (receivers_types own) ∙ sym (map-append r tparams (underlying ∷ flat_map receiver_types own))
  types_of_form (renamed_of pos tparams type) = sym (map-append r tparams (type ∷ []))
  types_of_form _ = refl

all_written : (target : Target) (xs : List Tree) → Same (flat_map tree_references (map (written target) xs)) (flat_map tree_references xs)
all_written target [] = itself []
all_written target (x ∷ xs) = joined (tree_references (written target x)) (tree_references x) (flat_map tree_references (map (written target) xs)) (flat_map tree_references xs) (same_refs target x) (all_written target xs)

names_kept : (xs ys : Refs) → ((x : Reference) → Contains xs x → Contains ys x) → (q : QName) → Contains (map (λ r. r.name) xs) q → Contains (map (λ r. r.name) ys) q
names_kept xs ys inside q has = let from = named_by xs q has in subst (Contains (map (λ r. r.name) ys)) from.2 (names_there ys from.0 (inside from.0 from.1))
  where
    named_by : (zs : Refs) (q : QName) → Contains (map (λ r. r.name) zs) q → (x : Reference) × Contains zs x × (x.name ≡ q)
    named_by [] q has = absurd (omega (arith, has.1))
    named_by (z ∷ zs) q (zero, below, is) = (z, (0, omega arith, refl), is)
    named_by (z ∷ zs) q (suc k, below, is) = let rest = named_by zs q (k, omega (arith, below), is) in (rest.0, Contains-append_right (z ∷ []) zs rest.0 rest.1, rest.2)

    names_there : (zs : Refs) (x : Reference) → Contains zs x → Contains (map (λ r. r.name) zs) x.name
    names_there [] x has = absurd (omega (arith, has.1))
    names_there (z ∷ zs) x (zero, below, is) = (0, omega arith, ap (λ (r : Reference). r.name) is)
    names_there (z ∷ zs) x (suc k, below, is) = Contains-append_right (z.name ∷ []) (map (λ r. r.name) zs) x.name (names_there zs x (k, omega (arith, below), is))

pub same_names : (target : Target) (decl : Decl) (q : QName) → (Contains (reference_names (decl_written target decl)) q → Contains (reference_names decl) q) × (Contains (reference_names decl) q → Contains (reference_names (decl_written target decl)) q)
same_names target decl q =
    let same : Same (references (decl_written target decl)) (references decl) = subst (λ (ts : List Tree). Same (flat_map tree_references ts) (references decl)) (sym (types_of_form (written target) decl)) (all_written target (form_types decl)) in
    (names_kept (references (decl_written target decl)) (references decl) (λ x. (same x).0) q, names_kept (references decl) (references (decl_written target decl)) (λ x. (same x).1) q)
