-- Where no alias in a type mentions itself, each of them ends.
use Rattle.std.proofs.Common.{◌≡◌, inl, inr, ℕ, ◌+◌, ◌≤◌, zero, suc, Bool, true, false, cond, List, [], ◌∷◌, ◌++◌, length, length-append, Option, Some, None, Ok, Err, refl, ap, sym, subst, ◌∙◌, arith}
use Rattle.std.specs.Prelude.{Result}
use Rattle.std.specs.List.{Contains, list_any, flat_map}
use Rattle.std.proofs.lemmas.List.Elements.{All-contains, Contains-append_left, Contains-append_right}
use Rattle.go_values.specs.declared.qualified.QName.{QName}
use Rattle.environments.specs.declared.mentions.Reference.{Reference}
use Rattle.environments.specs.Environments.{Entry, declared, damaged}
use Rattle.environments.specs.References.{tree_references, base_references, types_references, params_references, fields_references, terms_references, argument_count}
use Rattle.type_terms.specs.Declarations.{Decl, renamed_of, form_types}
use Rattle.type_terms.specs.DeclarationRules.{IsProper, IsProperDecl}
use Rattle.type_terms.specs.Parts.{parts, Within, itself, inside}
use Rattle.type_terms.specs.Shapes.{param_types, field_types, term_types}
use Rattle.type_terms.specs.Trees.{Tree, predeclared, named, parameter, alias, pointer, slice, array, chan, map_type, func, struct, interface, instance, union}
use Rattle.type_terms.specs.Trees.{Trees, no_types, types, Params, no_params, params, Fields, no_fields, fields, Terms, no_terms, terms, type_list, param_list, field_list, term_list}
use Rattle.type_terms.specs.TreeEquality.{same_name}
use Rattle.replacement.specs.declared.faults.SetFault.{SetFault}
use Rattle.replacement.specs.declared.faults.SetFault.TheVariants.{AliasCycle}
use Rattle.replacement.specs.Expansion.{Entries, AreNames, then, known}
use Rattle.type_sets.specs.TermTests.{Tested, fine, both, alias_in, mentioned, right_of, each_mention, mentions, no_cycle}
use Rattle.term_tests.specs.Mentions.{declared_right}
use Rattle.term_tests.proofs.ListLemmas.{none_of, cases_of, here_of, later_of, flat_has}
use Rattle.term_tests.proofs.FineLemmas.{among_is, more_of, by_each, one_less}
use Rattle.term_tests.proofs.WalkLemmas.{AreMet, IsKnown, one_more, none_met, room}
use Rattle.covering_aliases.specs.SoundTypes.{IsSoundBase, IsSound, AreSound, AreSoundParams, AreSoundFields, AreSoundTerms, Ends}

part_proper : (type part : Tree) → IsProper type → Contains (parts type) part → IsProper part
part_proper type part proper held below within = proper below (inside type part below held within)

all_of : List Tree → Type 0
all_of xs = (type : Tree) → Contains xs type → IsProper type

-- A type by its references: each alias among them is one of these.
module _ (IsOne : QName → Type 0) where
  AreOnes : List Reference → Type 0
  AreOnes rs = (r : Reference) → Contains rs r → (q : QName) → Contains (alias_in r.role r.name) q → IsOne q

  on_left : (xs ys : List Reference) → AreOnes (xs ++ ys) → AreOnes xs
  unfolding AreOnes
  on_left xs ys ones r held = ones r (Contains-append_left xs ys r held)

  on_right : (xs ys : List Reference) → AreOnes (xs ++ ys) → AreOnes ys
  unfolding AreOnes
  on_right xs ys ones r held = ones r (Contains-append_right xs ys r held)

  base_sound : (base : Tree) (args : Trees) → IsProper (instance base args) → AreOnes (base_references base (argument_count args)) → IsSoundBase IsOne base
  unfolding AreOnes
  base_sound (named q) args proper ones = tt
  base_sound (alias q) args proper ones = ones _ (here_of _ []) q (here_of q [])
  base_sound base args proper ones = absurd (proper (instance base args) (itself (instance base args))).0

  mutual
    unfolding AreOnes all_of

    type_sound : (type : Tree) → IsProper type → AreOnes (tree_references type) → IsSound IsOne type
    type_sound (predeclared basic) proper ones = tt
    type_sound (named q) proper ones = tt
    type_sound (parameter q) proper ones = tt
    type_sound (alias q) proper ones = ones _ (here_of _ []) q (here_of q [])
    type_sound (pointer type) proper ones = type_sound type (part_proper (pointer type) type proper (here_of type [])) ones
    type_sound (slice type) proper ones = type_sound type (part_proper (slice type) type proper (here_of type [])) ones
    type_sound (array size type) proper ones = type_sound type (part_proper (array size type) type proper (here_of type [])) ones
    type_sound (chan dir type) proper ones = type_sound type (part_proper (chan dir type) type proper (here_of type [])) ones
    type_sound (map_type key type) proper ones = (
      type_sound key (part_proper (map_type key type) key proper (here_of key (type ∷ []))) (on_left (tree_references key) (tree_references type) ones),
      type_sound type (part_proper (map_type key type) type proper (later_of key (type ∷ []) type (here_of type []))) (on_right (tree_references key) (tree_references type) ones),
    )
    type_sound (func home ins outs variadic) proper ones = (
      params_sound ins (λ t held. part_proper (func home ins outs variadic) t proper (Contains-append_left (flat_map param_types (param_list ins)) (flat_map param_types (param_list outs)) t held))
          (on_left (params_references ins) (params_references outs) ones),
      params_sound outs (λ t held. part_proper (func home ins outs variadic) t proper (Contains-append_right (flat_map param_types (param_list ins)) (flat_map param_types (param_list outs)) t held))
          (on_right (params_references ins) (params_references outs) ones),
    )
    type_sound (struct home inner) proper ones = fields_sound inner (λ t held. part_proper (struct home inner) t proper held) ones
    type_sound (interface home embedded inner) proper ones = tt
    type_sound (instance base args) proper ones = (
      base_sound base args proper (on_right (types_references args) (base_references base (argument_count args)) ones),
      types_sound args (λ t held. part_proper (instance base args) t proper (Contains-append_left (type_list args) (base ∷ []) t held))
          (on_left (types_references args) (base_references base (argument_count args)) ones),
    )
    type_sound (union inner) proper ones = terms_sound inner (λ t held. part_proper (union inner) t proper held) ones

    types_sound : (xs : Trees) → all_of (type_list xs) → AreOnes (types_references xs) → AreSound IsOne xs
    types_sound no_types all ones = tt
    types_sound (types type rest) all ones = (
      type_sound type (all type (here_of type (type_list rest))) (on_left (tree_references type) (types_references rest) ones),
      types_sound rest (λ t held. all t (later_of type (type_list rest) t held)) (on_right (tree_references type) (types_references rest) ones),
    )

    params_sound : (xs : Params) → all_of (flat_map param_types (param_list xs)) → AreOnes (params_references xs) → AreSoundParams IsOne xs
    params_sound no_params all ones = tt
    params_sound (params pos name type rest) all ones = (
      type_sound type (all type (here_of type (flat_map param_types (param_list rest)))) (on_left (tree_references type) (params_references rest) ones),
      params_sound rest (λ t held. all t (later_of type (flat_map param_types (param_list rest)) t held)) (on_right (tree_references type) (params_references rest) ones),
    )

    fields_sound : (xs : Fields) → all_of (flat_map field_types (field_list xs)) → AreOnes (fields_references xs) → AreSoundFields IsOne xs
    fields_sound no_fields all ones = tt
    fields_sound (fields origin pos name type embedded tag rest) all ones = (
      type_sound type (all type (here_of type (flat_map field_types (field_list rest)))) (on_left (tree_references type) (fields_references rest) ones),
      fields_sound rest (λ t held. all t (later_of type (flat_map field_types (field_list rest)) t held)) (on_right (tree_references type) (fields_references rest) ones),
    )

    terms_sound : (xs : Terms) → all_of (flat_map term_types (term_list xs)) → AreOnes (terms_references xs) → AreSoundTerms IsOne xs
    terms_sound no_terms all ones = tt
    terms_sound (terms tilde type rest) all ones = (
      type_sound type (all type (here_of type (flat_map term_types (term_list rest)))) (on_left (tree_references type) (terms_references rest) ones),
      terms_sound rest (λ t held. all t (later_of type (flat_map term_types (term_list rest)) t held)) (on_right (tree_references type) (terms_references rest) ones),
    )

  by_mentions : (type : Tree) → IsProper type → ((q : QName) → Contains (mentioned type) q → IsOne q) → IsSound IsOne type
  unfolding AreOnes
  by_mentions type proper each = type_sound type proper
      (λ r held q is. each q (flat_has (λ (x : Reference). alias_in x.role x.name) (tree_references type) r q held is))

-- what has a right side is one of the names behind which something stands
known_names : (entries : Entries) (names : List QName) → AreNames entries names → IsKnown entries names
known_names entries names are q right is = by (entries q) refl is
  where
    by : (o : Option Entry) → entries q ≡ o → then (known o q) (right_of q) ≡ Ok right → Contains names q
    by (Some entry) e h = among_is names q (are q entry e)
    by None e h = absurd cc

module _ (entries : Entries) where
  -- an alias among some that passed
  record Passed (more : List QName → List QName → Tested) (way : List QName) (q : QName) : Type 0 where
    new : list_any (same_name q) way ≡ false
    right : Tree
    is : declared_right entries q ≡ Ok right
    within : more (way ++ q ∷ []) (mentioned right) ≡ fine

  both_parts : (a b : Tested) → both a b ≡ fine → (a ≡ fine) × (b ≡ fine)
  both_parts (Ok u) b is = (refl, is)
  both_parts (Err f) b is = absurd cc

  one_passed : (more : List QName → List QName → Tested) (way : List QName) (q : QName) (b : Bool) → list_any (same_name q) way ≡ b → (r : Result Tree SetFault) → declared_right entries q ≡ r
      → cond {A = Tested} b (Err (AliasCycle q)) (then r (λ right. more (way ++ q ∷ []) (mentioned right))) ≡ fine → Passed more way q
  one_passed more way q true e r f is = absurd cc
  one_passed more way q false e (Err fault) f is = absurd cc
  one_passed more way q false e (Ok right) f is = record { new = e; right = right; is = f; within = is }

  each_passed : (more : List QName → List QName → Tested) (way qs : List QName) → each_mention entries more way qs ≡ fine → (q : QName) → Contains qs q → Passed more way q
  each_passed more way [] is q held = absurd (none_of q held)
  each_passed more way (p ∷ ps) is q held =
      let parts = both_parts _ (each_mention entries more way ps) is in
      elim (cases_of p ps q held) [
        | inl same ↦ subst (Passed more way) (sym same) (one_passed more way p (list_any (same_name p) way) refl (declared_right entries p) refl parts.0)
        | inr later ↦ each_passed more way ps parts.1 q later
      ]

  module _ (names : List QName) (found : IsKnown entries names) (proper : (q : QName) (decl : Decl) → entries q ≡ Some (declared decl) → IsProperDecl decl) where
    right_proper : (q : QName) (right : Tree) → declared_right entries q ≡ Ok right → IsProper right
    right_proper q right is = by (entries q) refl is
      where
        by : (o : Option Entry) → entries q ≡ o → then (known o q) (right_of q) ≡ Ok right → IsProper right
        by (Some (declared (renamed_of pos tparams own))) e h =
            let same : own ≡ right = cc in
            subst IsProper same
            (All-contains IsProper (tparams ++ own ∷ []) own (proper q (renamed_of pos tparams own) e).types (Contains-append_right tparams (own ∷ []) own (here_of own [])))
        by (Some (declared _)) e h = absurd cc
        by (Some (damaged fault read)) e h = absurd cc
        by None e h = absurd cc

    -- Where so many aliases may be met as there are names, each that passed ends.
    all_end : (n : ℕ) (way qs : List QName) → AreMet names way → length names ≤ n + length way → mentions entries n way qs ≡ fine → (q : QName) → Contains qs q → Ends entries n q
    all_end zero way qs was enough is q held =
        let part = each_passed (more_of entries zero) way qs (sym (by_each entries zero way qs) ∙ is) q held in
        let longer = room names (way ++ q ∷ []) (one_more names way q was part.new (found q part.right part.is)) in
        absurd (omega (arith, enough, longer, length-append way (q ∷ [])))
    all_end (suc n) way qs was enough is q held = λ right known_right.
        let part = each_passed (more_of entries (suc n)) way qs (sym (by_each entries (suc n) way qs) ∙ is) q held in
        let met = one_more names way q was part.new (found q part.right part.is) in
        let both_are : Ok part.right ≡ Ok right = sym part.is ∙ known_right in
        let same : part.right ≡ right = cc in
        let tested = sym (one_less entries n (way ++ q ∷ []) (mentioned part.right)) ∙ part.within in
        by_mentions (Ends entries n) right (right_proper q right known_right) (λ p inside.
        all_end n (way ++ q ∷ []) (mentioned right) met (omega (arith, enough, length-append way (q ∷ [])))
        (subst (λ t. mentions entries n (way ++ q ∷ []) (mentioned t) ≡ fine) same tested) p inside)

    -- Where no alias in a type mentions itself, it is sound.
    pub no_cycle_sound : (type : Tree) → IsProper type → no_cycle entries names type ≡ fine → IsSound (Ends entries (length names)) type
    no_cycle_sound type whole is =
        by_mentions (Ends entries (length names)) type whole (λ q held. all_end (length names) [] (mentioned type) (none_met names) (omega arith) is q held)

pub ends_where_fine : (entries : Entries) (names : List QName) → AreNames entries names → ((q : QName) (decl : Decl) → entries q ≡ Some (declared decl) → IsProperDecl decl)
    → (type : Tree) → IsProper type → no_cycle entries names type ≡ fine → IsSound (Ends entries (length names)) type
ends_where_fine entries names are proper type whole is = no_cycle_sound entries names (known_names entries names are) proper type whole is
