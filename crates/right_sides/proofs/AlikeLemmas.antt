-- Whether a type is identical to another one depends on the aliases alone that it mentions.
use Rattle.std.proofs.Common.{◌≡◌, ℕ, List, [], ◌∷◌, ◌++◌, refl, ap, ◌∙◌}
use Rattle.std.specs.Prelude.{Result}
use Rattle.std.specs.List.{Contains}
use Rattle.std.proofs.lemmas.List.Elements.{Contains-append_left, Contains-append_right}
use Rattle.go_values.specs.declared.qualified.QName.{QName}
use Rattle.type_terms.specs.Trees.{Tree, predeclared, named, parameter, alias, pointer, slice, array, chan, map_type}
use Rattle.type_terms.specs.Trees.{func, struct, interface, instance, union, Trees, no_types, types, Params, no_params}
use Rattle.type_terms.specs.Trees.{params, Fields, no_fields, fields, no_methods, methods, Terms, no_terms, terms}
use Rattle.environments.specs.declared.mentions.Reference.{Reference}
use Rattle.environments.specs.References.{tree_references, base_references, types_references, params_references, fields_references, terms_references, argument_count}
use Rattle.replacement.specs.declared.faults.SetFault.{SetFault}
use Rattle.type_sets.specs.Covering.{Answer, Test, settled, on_base, on_pointer, on_slice, on_array, on_chan, on_map, on_func, on_struct, on_union, alike, types_alike, params_alike, fields_alike, terms_alike}
use Rattle.type_sets.specs.TermTests.{alias_in, mentioned}
use Rattle.term_tests.proofs.ListLemmas.{here_of, flat_has}

-- Two answers for aliases that agree on those that a type mentions.
module _ (settle : Tree → Result Tree SetFault) (free : Tree → Answer) (expand other : QName → List Test → Test) (given : QName → Test) where
  abbrev pub Agree : QName → Type 0
  Agree q = (tests : List Test) → expand q tests ≡ other q tests

  abbrev pub AgreeAt : Reference → Type 0
  AgreeAt r = (q : QName) → Contains (alias_in r.role r.name) q → Agree q

  abbrev pub AgreeOn : List Reference → Type 0
  AgreeOn rs = (r : Reference) → Contains rs r → AgreeAt r

  on_left : (xs ys : List Reference) → AgreeOn (xs ++ ys) → AgreeOn xs
  on_left xs ys agree r held = agree r (Contains-append_left xs ys r held)

  on_right : (xs ys : List Reference) → AgreeOn (xs ++ ys) → AgreeOn ys
  on_right xs ys agree r held = agree r (Contains-append_right xs ys r held)

  bases_agree : (base : Tree) (count : ℕ) → AgreeOn (base_references base count) → (tests : List Test)
      → on_base settle free expand base tests ≡ on_base settle free other base tests
  bases_agree (alias q) count agree tests = agree _ (here_of _ []) q (here_of q []) tests
  bases_agree _ count agree tests = refl

  mutual
    pub types_agree : (type : Tree) → AgreeOn (tree_references type) → alike settle free expand given type ≡ alike settle free other given type
    types_agree (parameter q) agree = refl
    types_agree (alias q) agree = agree _ (here_of _ []) q (here_of q []) []
    types_agree (instance base args) agree =
        bases_agree base (argument_count args) (on_right (types_references args) (base_references base (argument_count args)) agree) (types_alike settle free expand given args)
        ∙ ap (on_base settle free other base) (rows_agree args (on_left (types_references args) (base_references base (argument_count args)) agree))
    types_agree (interface home no_types no_methods) agree = refl
    types_agree (interface home no_types (methods origin pos name ins outs variadic rest)) agree = refl
    types_agree (interface home (types type rest) own) agree = refl
    types_agree (pointer type) agree = ap (λ f. settled settle free (on_pointer f)) (types_agree type agree)
    types_agree (slice type) agree = ap (λ f. settled settle free (on_slice f)) (types_agree type agree)
    types_agree (array size type) agree = ap (λ f. settled settle free (on_array size f)) (types_agree type agree)
    types_agree (chan dir type) agree = ap (λ f. settled settle free (on_chan dir f)) (types_agree type agree)
    types_agree (map_type key type) agree = λ i. settled settle free (on_map
        (types_agree key (on_left (tree_references key) (tree_references type) agree) i)
        (types_agree type (on_right (tree_references key) (tree_references type) agree) i))
    types_agree (func home ins outs variadic) agree = λ i. settled settle free (on_func
        (params_agree ins (on_left (params_references ins) (params_references outs) agree) i)
        (params_agree outs (on_right (params_references ins) (params_references outs) agree) i) variadic)
    types_agree (struct home inner) agree = ap (λ fs. settled settle free (on_struct home inner fs)) (fields_agree inner agree)
    types_agree (union inner) agree = ap (λ fs. settled settle free (on_union inner fs)) (terms_agree inner agree)
    types_agree (predeclared basic) agree = refl
    types_agree (named q) agree = refl

    rows_agree : (xs : Trees) → AgreeOn (types_references xs) → types_alike settle free expand given xs ≡ types_alike settle free other given xs
    rows_agree no_types agree = refl
    rows_agree (types type rest) agree = λ i.
        types_agree type (on_left (tree_references type) (types_references rest) agree) i
        ∷ rows_agree rest (on_right (tree_references type) (types_references rest) agree) i

    params_agree : (xs : Params) → AgreeOn (params_references xs) → params_alike settle free expand given xs ≡ params_alike settle free other given xs
    params_agree no_params agree = refl
    params_agree (params pos name type rest) agree = λ i.
        types_agree type (on_left (tree_references type) (params_references rest) agree) i
        ∷ params_agree rest (on_right (tree_references type) (params_references rest) agree) i

    fields_agree : (xs : Fields) → AgreeOn (fields_references xs) → fields_alike settle free expand given xs ≡ fields_alike settle free other given xs
    fields_agree no_fields agree = refl
    fields_agree (fields origin pos name type embedded tag rest) agree = λ i.
        types_agree type (on_left (tree_references type) (fields_references rest) agree) i
        ∷ fields_agree rest (on_right (tree_references type) (fields_references rest) agree) i

    terms_agree : (xs : Terms) → AgreeOn (terms_references xs) → terms_alike settle free expand given xs ≡ terms_alike settle free other given xs
    terms_agree no_terms agree = refl
    terms_agree (terms tilde type rest) agree = λ i.
        types_agree type (on_left (tree_references type) (terms_references rest) agree) i
        ∷ terms_agree rest (on_right (tree_references type) (terms_references rest) agree) i

  pub mentions_agree : (type : Tree) → ((q : QName) → Contains (mentioned type) q → Agree q) → alike settle free expand given type ≡ alike settle free other given type
  mentions_agree type agree = types_agree type (λ r held q is tests.
      agree q (flat_has (λ (x : Reference). alias_in x.role x.name) (tree_references type) r q held is) tests)
