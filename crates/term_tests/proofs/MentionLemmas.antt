-- The aliases among references that are listed once are those of the type.
use Rattle.std.proofs.Common.{◌≡◌, ◌<◌, ◌≤◌, ◌^◌, ◌-◌, ◌⊎◌, inl, inr, ℕ, suc, List, [], ◌∷◌, ◌++◌, length, map, drop, slice_get, Some, refl, ap, sym, subst, ◌∙◌, arith, append_assoc, length-append}
use Rattle.std.specs.Prelude.{Result, Ok, Err, OnOk}
use Rattle.std.proofs.lemmas.List.{append-nil}
use Rattle.std.specs.List.{Contains}
use Rattle.go_values.specs.declared.qualified.QName.{QName}
use Rattle.environments.specs.declared.mentions.Role.{Role}
use Rattle.environments.specs.declared.mentions.Role.TheVariants.{Defined, Parameter, Alias, DefinedBase, AliasBase}
use Rattle.environments.specs.declared.mentions.Reference.{Reference}
use Rattle.environments.specs.References.{tree_references, IsFirstMentions, all_seen, again, first}
use Rattle.std.proofs.lemmas.List.Elements.{Contains-push_cases, Contains-append_left, Contains-push}
use Rattle.type_terms.specs.Trees.{Tree}
use Rattle.replacement.specs.Expansion.{Entries}
use Rattle.type_sets.specs.TermTests.{Tested, fine, both, alias_in, mentioned, each_mention}
use Rattle.term_tests.specs.declared.walking.Task.{Task}
use Rattle.term_tests.specs.declared.walking.Task.TheVariants.{Enter}
use Rattle.term_tests.specs.Aliases.{aliases_of}
use Rattle.term_tests.specs.Walks.{Agrees, Puts}
use Rattle.term_tests.proofs.ListLemmas.{here_of, later_of, cases_of, none_of, drop_next, drop_all, flat_has, flat_from, both_fine, both_again, fold, fold_append, absorbed, fold_flat}

-- a test of first mentions is one of all mentions
first_fold : (test : Reference → Tested) (seen xs all : List Reference) → IsFirstMentions seen xs all → fold test all ≡ both (fold test seen) (fold test xs)
first_fold test _ _ _ (all_seen seen) = sym (both_fine (fold test seen))
first_fold test _ _ all (again seen next xs _ held later) = first_fold test seen xs all later ∙ sym (absorbed test seen next (fold test xs) held)
first_fold test _ _ all (first seen next xs _ new later) =
    first_fold test (seen ++ next ∷ []) xs all later
    ∙ ap (λ r. both r (fold test xs)) (fold_append test seen (next ∷ []))
    ∙ both_again (fold test seen) (both (test next) fine) (fold test xs)
    ∙ ap (λ r. both (fold test seen) (both r (fold test xs))) (both_fine (test next))

first_only : (seen xs all : List Reference) → IsFirstMentions seen xs all → (r : Reference) → Contains all r → Contains seen r ⊎ Contains xs r
first_only _ _ _ (all_seen seen) r held = inl held
first_only _ _ all (again seen next xs _ was later) r held = elim (first_only seen xs all later r held) [ inl before ↦ inl before | inr behind ↦ inr (later_of next xs r behind) ]
first_only _ _ all (first seen next xs _ new later) r held = elim (first_only (seen ++ next ∷ []) xs all later r held) [
  | inl before ↦ elim (Contains-push_cases seen next r before) [ inl old ↦ inl old | inr same ↦ inr (subst (Contains (next ∷ xs)) same (here_of next xs)) ]
  | inr behind ↦ inr (later_of next xs r behind)
]

first_has : (seen xs all : List Reference) → IsFirstMentions seen xs all → (r : Reference) → Contains seen r ⊎ Contains xs r → Contains all r
first_has _ _ _ (all_seen seen) r (inl held) = held
first_has _ _ _ (all_seen seen) r (inr held) = absurd (none_of r held)
first_has _ _ all (again seen next xs _ was later) r (inl held) = first_has seen xs all later r (inl held)
first_has _ _ all (again seen next xs _ was later) r (inr held) = elim (cases_of next xs r held) [
  | inl same ↦ first_has seen xs all later r (inl (subst (Contains seen) (sym same) was))
  | inr behind ↦ first_has seen xs all later r (inr behind)
]
first_has _ _ all (first seen next xs _ new later) r (inl held) = first_has (seen ++ next ∷ []) xs all later r (inl (Contains-append_left seen (next ∷ []) r held))
first_has _ _ all (first seen next xs _ new later) r (inr held) = elim (cases_of next xs r held) [
  | inl same ↦ first_has (seen ++ next ∷ []) xs all later r (inl (subst (Contains (seen ++ next ∷ [])) (sym same) (Contains-push seen next)))
  | inr behind ↦ first_has (seen ++ next ∷ []) xs all later r (inr behind)
]

each_folds : (test : QName → Tested) (entries : Entries) (more : List QName → List QName → Tested) (way qs : List QName)
    → ((q : QName) → each_mention entries more way (q ∷ []) ≡ test q) → each_mention entries more way qs ≡ fold test qs
each_folds test entries more way [] same = refl
each_folds test entries more way (q ∷ qs) same = unjoined ∙ (λ i. both (same q i) (each_folds test entries more way qs same i))
  where
    unjoin : (a rest : Tested) → both a rest ≡ both (both a fine) rest
    unjoin a rest = ap (λ r. both r rest) (sym (both_fine a))

    unjoined : each_mention entries more way (q ∷ qs) ≡ both (each_mention entries more way (q ∷ [])) (each_mention entries more way qs)
    unjoined = unjoin _ (each_mention entries more way qs)

agrees_when : (type : Tree) (found : List Reference) → IsFirstMentions [] (tree_references type) found → Agrees type (aliases_of found)
agrees_when type found firsts = record {
  tests = λ entries more way.
      let test = λ (q : QName). each_mention entries more way (q ∷ []) in
      let inner = λ (r : Reference). alias_in r.role r.name in
      each_folds test entries more way (aliases_of found) (λ q. refl)
      ∙ fold_flat test inner found
      ∙ first_fold (λ r. fold test (inner r)) [] (tree_references type) found firsts
      ∙ sym (fold_flat test inner (tree_references type))
      ∙ sym (each_folds test entries more way (mentioned type) (λ q. refl));
  all = λ q held.
      let inner = λ (r : Reference). alias_in r.role r.name in
      let from = flat_from inner (tree_references type) q held in
      flat_has inner found from.0 q (first_has [] (tree_references type) found firsts from.0 (inr from.1)) from.2;
  only = λ q held.
      let inner = λ (r : Reference). alias_in r.role r.name in
      let from = flat_from inner found q held in
      flat_has inner (tree_references type) from.0 q (among from.0 (first_only [] (tree_references type) found firsts from.0 from.1)) from.2;
}
  where
    among : (r : Reference) → Contains [] r ⊎ Contains (tree_references type) r → Contains (tree_references type) r
    among r (inl none) = absurd (none_of r none)
    among r (inr held) = held

aliases_few : (found : List Reference) → length (aliases_of found) ≤ length found
aliases_few [] = omega arith
aliases_few (r ∷ rs) = omega (arith, length-append (alias_in r.role r.name) (aliases_of rs), one r.role, aliases_few rs)
  where
    one : (role : Role) → length (alias_in role r.name) ≤ 1
    one Defined = omega arith
    one Parameter = omega arith
    one Alias = omega arith
    one (DefinedBase count) = omega arith
    one (AliasBase count) = omega arith

-- the references of a type are put
pub mentions_put : (type : Tree) (found : List Reference) (old new : List Task) → IsFirstMentions [] (tree_references type ++ []) found → length found < 2 ^ 63
    → new ≡ map Enter (aliases_of found) ++ old → Puts type old new
mentions_put type found old new firsts small is = record {
  mentions = aliases_of found;
  agrees = agrees_when type found (subst (λ rs. IsFirstMentions [] rs found) (append-nil (tree_references type)) firsts);
  few = omega (arith, aliases_few found, small);
  are = is;
}

-- those from a place on
abbrev pub aliases_from : ℕ → List Reference → List Task
aliases_from k found = map Enter (aliases_of (drop k found))

pub none_left : (found : List Reference) → aliases_from (length found) found ≡ []
none_left found = ap (λ rs. map Enter (aliases_of rs)) (drop_all found)

map_append : (xs ys : List QName) → map Enter (xs ++ ys) ≡ map Enter xs ++ map Enter ys
map_append [] ys = refl
map_append (x ∷ xs) ys = ap (λ l. Enter x ∷ l) (map_append xs ys)

pub one_put : (k : ℕ) (found : List Reference) (r : Reference) → slice_get found k ≡ Some r → (before after old : List Task) → before ≡ aliases_from (suc k) found ++ old
    → after ≡ map Enter (aliases_of (r ∷ [])) ++ before → after ≡ aliases_from k found ++ old
one_put k found r there before after old was is =
    let head = alias_in r.role r.name in
    is ∙ ap (λ l. map Enter (aliases_of (r ∷ [])) ++ l) was
    ∙ ap (λ l. map Enter l ++ (aliases_from (suc k) found ++ old)) (append-nil head)
    ∙ sym (append_assoc (map Enter head) (aliases_from (suc k) found) old)
    ∙ ap (λ l. l ++ old) (sym (map_append head (aliases_of (drop (suc k) found))))
    ∙ ap (λ rs. map Enter (aliases_of rs) ++ old) (sym (drop_next found k r there))

-- one place before
pub put_next : (left : ℕ) (found : List Reference) (r : Reference) → 0 < left → slice_get found (left - 1) ≡ Some r → (before after old : List Task) → before ≡ aliases_from left found ++ old
    → after ≡ map Enter (aliases_of (r ∷ [])) ++ before → after ≡ aliases_from (left - 1) found ++ old
put_next left found r some there before after old was is =
    let next : left ≡ suc (left - 1) = omega (arith, some) in
    one_put (left - 1) found r there before after old (was ∙ ap (λ k. aliases_from k found ++ old) next) is

pub then_ok : {X E P Q : Type 0} (r : Result X E) → (P → Q) → OnOk r P → OnOk r Q
then_ok (Ok x) step holds = step holds
then_ok (Err e) step holds = tt
