-- What a type holds, by its parts, and that it depends on the aliases alone that it mentions.
use Rattle.std.proofs.Common.{◌≡◌, ℕ, ◌⊎◌, List, [], ◌∷◌, ◌++◌, map, refl, ap, sym, subst, ◌∙◌, arith}
use Rattle.std.specs.Prelude.{Result, Ok, Err}
use Rattle.std.specs.List.{Contains, flat_map}
use Rattle.std.proofs.lemmas.List.Elements.{Contains-append_left, Contains-append_right}
use Rattle.go_values.specs.declared.qualified.QName.{QName}
use Rattle.type_terms.specs.Shapes.{param_types, field_types, term_types}
use Rattle.type_terms.specs.Trees.{Tree, predeclared, named, parameter, alias, pointer, slice, array, chan, map_type}
use Rattle.type_terms.specs.Trees.{func, struct, interface, instance, union, Trees, no_types, types, Params, no_params}
use Rattle.type_terms.specs.Trees.{params, Fields, no_fields, fields, Methods, no_methods, methods, Terms, no_terms, terms}
use Rattle.type_terms.specs.Trees.{type_list, param_list, field_list, term_list}
use Rattle.type_terms.specs.Parts.{parts}
use Rattle.environments.specs.declared.mentions.Reference.{Reference}
use Rattle.environments.specs.References.{tree_references, base_references, types_references, params_references, fields_references, terms_references, argument_count}
use Rattle.type_sets.specs.TermTests.{Tested, fine, both, all_fine, alias_in, mentioned, on_base, holds, all_hold, params_hold, fields_hold, terms_hold}
use Rattle.term_tests.proofs.ListLemmas.{both_fine, here_of, flat_has}
use Rattle.whole_terms.proofs.TestLemmas.{map_append, all_mapped}

module _ (expand : QName → List Tested → Tested) (given : QName → Tested) where
  pub all_held : (xs : Trees) → all_hold expand given xs ≡ map (holds expand given) (type_list xs)
  all_held no_types = refl
  all_held (types type rest) = ap (λ l. holds expand given type ∷ l) (all_held rest)

  of_params : (xs : Params) → params_hold expand given xs ≡ all_fine (map (holds expand given) (flat_map param_types (param_list xs)))
  of_params no_params = refl
  of_params (params pos name type rest) = ap (both (holds expand given type)) (of_params rest)

  of_fields : (xs : Fields) → fields_hold expand given xs ≡ all_fine (map (holds expand given) (flat_map field_types (field_list xs)))
  of_fields no_fields = refl
  of_fields (fields origin pos name type embedded tag rest) = ap (both (holds expand given type)) (of_fields rest)

  of_terms : (xs : Terms) → terms_hold expand given xs ≡ all_fine (map (holds expand given) (flat_map term_types (term_list xs)))
  of_terms no_terms = refl
  of_terms (terms tilde type rest) = ap (both (holds expand given type)) (of_terms rest)

  -- neither a type parameter, nor an alias or an instance, nor an interface
  abbrev pub IsPlain : Tree → Type 0
  IsPlain (parameter q) = ⊥
  IsPlain (alias q) = ⊥
  IsPlain (instance base args) = ⊥
  IsPlain (interface home embedded own) = ⊥
  IsPlain _ = Unit {0}

  pub by_parts : (type : Tree) → IsPlain type → holds expand given type ≡ all_fine (map (holds expand given) (parts type))
  by_parts (parameter q) plain = absurd plain
  by_parts (alias q) plain = absurd plain
  by_parts (instance base args) plain = absurd plain
  by_parts (interface home embedded own) plain = absurd plain
  by_parts (predeclared basic) plain = refl
  by_parts (named q) plain = refl
  by_parts (pointer type) plain = sym (both_fine (holds expand given type))
  by_parts (slice type) plain = sym (both_fine (holds expand given type))
  by_parts (array size type) plain = sym (both_fine (holds expand given type))
  by_parts (chan dir type) plain = sym (both_fine (holds expand given type))
  by_parts (map_type key type) plain = ap (both (holds expand given key)) (sym (both_fine (holds expand given type)))
  by_parts (func home ins outs variadic) plain =
      (λ i. both (of_params ins i) (of_params outs i))
      ∙ sym (all_mapped (holds expand given) (flat_map param_types (param_list ins)) (flat_map param_types (param_list outs)))
  by_parts (struct home inner) plain = of_fields inner
  by_parts (union inner) plain = of_terms inner

-- Two answers for aliases that agree on those that a type mentions.
module _ (expand other : QName → List Tested → Tested) (given : QName → Tested) where
  abbrev pub Agree : QName → Type 0
  Agree q = (answers : List Tested) → expand q answers ≡ other q answers

  abbrev pub AgreeAt : Reference → Type 0
  AgreeAt r = (q : QName) → Contains (alias_in r.role r.name) q → Agree q

  abbrev pub AgreeOn : List Reference → Type 0
  AgreeOn rs = (r : Reference) → Contains rs r → AgreeAt r

  on_left : (xs ys : List Reference) → AgreeOn (xs ++ ys) → AgreeOn xs
  on_left xs ys agree r held = agree r (Contains-append_left xs ys r held)

  on_right : (xs ys : List Reference) → AgreeOn (xs ++ ys) → AgreeOn ys
  on_right xs ys agree r held = agree r (Contains-append_right xs ys r held)

  bases_agree : (base : Tree) (count : ℕ) → AgreeOn (base_references base count) → (answers : List Tested)
      → on_base expand base answers ≡ on_base other base answers
  bases_agree (alias q) count agree answers = agree _ (here_of _ []) q (here_of q []) answers
  bases_agree _ count agree answers = refl

  mutual
    pub types_agree : (type : Tree) → AgreeOn (tree_references type) → holds expand given type ≡ holds other given type
    types_agree (parameter q) agree = refl
    types_agree (alias q) agree = agree _ (here_of _ []) q (here_of q []) []
    types_agree (instance base args) agree =
        bases_agree base (argument_count args) (on_right (types_references args) (base_references base (argument_count args)) agree) (all_hold expand given args)
        ∙ ap (on_base other base) (rows_agree args (on_left (types_references args) (base_references base (argument_count args)) agree))
    types_agree (interface home no_types no_methods) agree = refl
    types_agree (interface home no_types (methods origin pos name ins outs variadic rest)) agree = refl
    types_agree (interface home (types type rest) own) agree = refl
    types_agree (pointer type) agree = types_agree type agree
    types_agree (slice type) agree = types_agree type agree
    types_agree (array size type) agree = types_agree type agree
    types_agree (chan dir type) agree = types_agree type agree
    types_agree (map_type key type) agree = λ i. both
        (types_agree key (on_left (tree_references key) (tree_references type) agree) i)
        (types_agree type (on_right (tree_references key) (tree_references type) agree) i)
    types_agree (func home ins outs variadic) agree = λ i. both
        (params_agree ins (on_left (params_references ins) (params_references outs) agree) i)
        (params_agree outs (on_right (params_references ins) (params_references outs) agree) i)
    types_agree (struct home inner) agree = fields_agree inner agree
    types_agree (union inner) agree = terms_agree inner agree
    types_agree (predeclared basic) agree = refl
    types_agree (named q) agree = refl

    rows_agree : (xs : Trees) → AgreeOn (types_references xs) → all_hold expand given xs ≡ all_hold other given xs
    rows_agree no_types agree = refl
    rows_agree (types type rest) agree = λ i.
        types_agree type (on_left (tree_references type) (types_references rest) agree) i
        ∷ rows_agree rest (on_right (tree_references type) (types_references rest) agree) i

    params_agree : (xs : Params) → AgreeOn (params_references xs) → params_hold expand given xs ≡ params_hold other given xs
    params_agree no_params agree = refl
    params_agree (params pos name type rest) agree = λ i. both
        (types_agree type (on_left (tree_references type) (params_references rest) agree) i)
        (params_agree rest (on_right (tree_references type) (params_references rest) agree) i)

    fields_agree : (xs : Fields) → AgreeOn (fields_references xs) → fields_hold expand given xs ≡ fields_hold other given xs
    fields_agree no_fields agree = refl
    fields_agree (fields origin pos name type embedded tag rest) agree = λ i. both
        (types_agree type (on_left (tree_references type) (fields_references rest) agree) i)
        (fields_agree rest (on_right (tree_references type) (fields_references rest) agree) i)

    terms_agree : (xs : Terms) → AgreeOn (terms_references xs) → terms_hold expand given xs ≡ terms_hold other given xs
    terms_agree no_terms agree = refl
    terms_agree (terms tilde type rest) agree = λ i. both
        (types_agree type (on_left (tree_references type) (terms_references rest) agree) i)
        (terms_agree rest (on_right (tree_references type) (terms_references rest) agree) i)

  -- what a type holds depends on the aliases alone that it mentions
  pub mentions_agree : (type : Tree) → ((q : QName) → Contains (mentioned type) q → Agree q) → holds expand given type ≡ holds other given type
  mentions_agree type agree = types_agree type (λ r held q is answers.
      agree q (flat_has (λ (x : Reference). alias_in x.role x.name) (tree_references type) r q held is) answers)
