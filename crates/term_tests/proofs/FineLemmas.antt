-- An alias that was found fine is fine on each later way to it.
use Rattle.std.proofs.Common.{◌≡◌, inl, inr, ℕ, zero, suc, Bool, true, false, cond, List, [], ◌∷◌, ◌++◌, Ok, Err, refl, ap, sym, subst, ◌∙◌, true≢false}
use Rattle.std.specs.List.{Contains, list_any}
use Rattle.std.proofs.lemmas.List.Elements.{Contains-push_cases}
use Rattle.std.proofs.lemmas.Map.Views.{Contains-from_any, list_any-from_Contains}
use Rattle.go_values.specs.declared.qualified.QName.{QName}
use Rattle.go_values.specs.contracts.qualified.QNameEq.TheImpl.Laws as qname_laws
use Rattle.go_values.specs.Exact.{exact_qname}
use Rattle.type_terms.specs.Trees.{Tree}
use Rattle.type_terms.specs.TreeEquality.{same_name}
use Rattle.replacement.specs.declared.faults.SetFault.{SetFault}
use Rattle.replacement.specs.declared.faults.SetFault.TheVariants.{AliasCycle}
use Rattle.replacement.specs.Expansion.{Entries, then}
use Rattle.type_sets.specs.TermTests.{Tested, fine, both, mentioned, each_mention, mentions}
use Rattle.term_tests.specs.Mentions.{declared_right, Mentions}
use Rattle.term_tests.proofs.ListLemmas.{here_of, later_of, both_fine}

pub is_among : (qs : List QName) (q : QName) → Contains qs q → list_any (same_name q) qs ≡ true
is_among qs q held = list_any-from_Contains qname_laws.laws-law q qs held

pub among_is : (qs : List QName) (q : QName) → list_any (same_name q) qs ≡ true → Contains qs q
among_is qs q is = Contains-from_any exact_qname q qs is

pub not_among : (qs : List QName) (q : QName) → (Contains qs q → ⊥) → list_any (same_name q) qs ≡ false
not_among qs q not = by (list_any (same_name q) qs) refl
  where
    by : (b : Bool) → list_any (same_name q) qs ≡ b → list_any (same_name q) qs ≡ false
    by true e = absurd (not (among_is qs q e))
    by false e = e

pub among_not : (qs : List QName) (q : QName) → list_any (same_name q) qs ≡ false → Contains qs q → ⊥
among_not qs q is held = true≢false (sym (is_among qs q held) ∙ is)

-- from one alias to another, by one mention at least
pub data Reaches (entries : Entries) : QName → QName → Type 0 where
  at_once : (from to : QName) → Mentions entries from to → Reaches entries from to
  by_way : (from next to : QName) → Mentions entries from next → Reaches entries next to → Reaches entries from to

-- All that an alias mentions is declared, at every depth, and it comes to no end without a circle.
pub data IsFine (entries : Entries) : QName → Type 0 where
  is_fine : (q : QName) (right : Tree) → declared_right entries q ≡ Ok right
      → ((p : QName) → Contains (mentioned right) p → IsFine entries p) → IsFine entries q

module _ (entries : Entries) where
  pub further_on : (from next to : QName) → Reaches entries from next → Mentions entries next to → Reaches entries from to
  further_on _ _ to (at_once from next first) last = by_way from next to first (at_once next to last)
  further_on _ _ to (by_way from middle next first rest) last = by_way from middle to first (further_on middle next to rest last)

  same_right : (right other : Tree) (q p : QName) → declared_right entries q ≡ Ok right → declared_right entries q ≡ Ok other
      → Contains (mentioned other) p → Contains (mentioned right) p
  same_right right other q p is was held =
      let both_are : Ok other ≡ Ok right = sym was ∙ is in
      let same : other ≡ right = cc in
      subst (λ t. Contains (mentioned t) p) same held

  -- no alias that is fine comes back to itself
  pub no_circle : (q : QName) → IsFine entries q → Reaches entries q q → ⊥
  no_circle _ (is_fine q right is each) (at_once _ _ (other, was, held)) =
      let inside = same_right right other q q is was held in
      no_circle q (each q inside) (at_once q q (other, was, held))
  no_circle _ (is_fine q right is each) (by_way _ next _ (other, was, held) rest) =
      let inside = same_right right other q next is was held in
      no_circle next (each next inside) (further_on next q next rest (other, was, held))

  -- what is tested of a row of aliases is that of each
  pub each_first : (more : List QName → List QName → Tested) (way : List QName) (q : QName) (qs : List QName)
      → each_mention entries more way (q ∷ qs) ≡ both (each_mention entries more way (q ∷ [])) (each_mention entries more way qs)
  each_first more way q qs = unjoin _ (each_mention entries more way qs)
    where
      unjoin : (a rest : Tested) → both a rest ≡ both (both a fine) rest
      unjoin a rest = ap (λ r. both r rest) (sym (both_fine a))

  pub all_each : (more : List QName → List QName → Tested) (way qs : List QName)
      → ((q : QName) → Contains qs q → each_mention entries more way (q ∷ []) ≡ fine) → each_mention entries more way qs ≡ fine
  all_each more way [] each = refl
  all_each more way (q ∷ qs) each =
      each_first more way q qs
      ∙ (λ i. both (each q (here_of q qs) i) (all_each more way qs (λ p held. each p (later_of q qs p held)) i))

  -- one alias that is met
  pub goes_in : (more : List QName → List QName → Tested) (way : List QName) (q : QName) (right : Tree) → list_any (same_name q) way ≡ false
      → declared_right entries q ≡ Ok right → each_mention entries more way (q ∷ []) ≡ more (way ++ q ∷ []) (mentioned right)
  goes_in more way q right new is =
      both_fine _
      ∙ ap (λ b. cond {A = Tested} b (Err (AliasCycle q)) (then (declared_right entries q) (λ t. more (way ++ q ∷ []) (mentioned t)))) new
      ∙ ap (λ r. then r (λ t. more (way ++ q ∷ []) (mentioned t))) is

  pub has_none : (more : List QName → List QName → Tested) (way : List QName) (q : QName) (fault : SetFault) → list_any (same_name q) way ≡ false
      → declared_right entries q ≡ Err fault → each_mention entries more way (q ∷ []) ≡ Err fault
  has_none more way q fault new is =
      both_fine _
      ∙ ap (λ b. cond {A = Tested} b (Err (AliasCycle q)) (then (declared_right entries q) (λ t. more (way ++ q ∷ []) (mentioned t)))) new
      ∙ ap (λ r. then r (λ t. more (way ++ q ∷ []) (mentioned t))) is

  pub comes_back : (more : List QName → List QName → Tested) (way : List QName) (q : QName) → list_any (same_name q) way ≡ true
      → each_mention entries more way (q ∷ []) ≡ Err (AliasCycle q)
  comes_back more way q met =
      both_fine _
      ∙ ap (λ b. cond {A = Tested} b (Err (AliasCycle q)) (then (declared_right entries q) (λ t. more (way ++ q ∷ []) (mentioned t)))) met

  -- what is tested, where so many right sides may mention one another
  pub more_of : ℕ → List QName → List QName → Tested
  more_of zero way qs = fine
  more_of (suc n) way qs = mentions entries n way qs

  pub by_each : (n : ℕ) (way qs : List QName) → mentions entries n way qs ≡ each_mention entries (more_of n) way qs
  unfolding mentions more_of
  by_each zero way qs = refl
  by_each (suc n) way qs = refl

  pub one_less : (n : ℕ) (way qs : List QName) → more_of (suc n) way qs ≡ mentions entries n way qs
  unfolding more_of
  one_less n way qs = refl

  -- where each alias that a right side mentions passes, what is tested of the right side does
  inside_passes : (q : QName) (right : Tree) → declared_right entries q ≡ Ok right
      → ((p : QName) → Contains (mentioned right) p → (n : ℕ) (way : List QName) → ((w : QName) → Contains way w → Reaches entries w p)
      → mentions entries n way (p ∷ []) ≡ fine)
      → (n : ℕ) (way : List QName) → ((w : QName) → Contains way w → Reaches entries w q) → more_of n (way ++ q ∷ []) (mentioned right) ≡ fine
  unfolding more_of
  inside_passes q right is each zero way leads = refl
  inside_passes q right is each (suc n) way leads =
      by_each n (way ++ q ∷ []) (mentioned right)
      ∙ all_each (more_of n) (way ++ q ∷ []) (mentioned right) (λ p held.
      sym (by_each n (way ++ q ∷ []) (p ∷ []))
      ∙ each p held n (way ++ q ∷ []) (λ w on_way. elim (Contains-push_cases way q w on_way) [
        | inl before ↦ further_on w q p (leads w before) (right, is, held)
        | inr same ↦ subst (λ v. Reaches entries v p) same (at_once q p (right, is, held))
      ]))

  -- The heart: an alias that is fine passes on each way from which it is reached.
  pub passes : (q : QName) → IsFine entries q → (n : ℕ) (way : List QName) → ((w : QName) → Contains way w → Reaches entries w q)
      → mentions entries n way (q ∷ []) ≡ fine
  passes _ (is_fine q right is each) n way leads =
      let new = not_among way q (λ held. no_circle q (is_fine q right is each) (leads q held)) in
      by_each n way (q ∷ []) ∙ goes_in (more_of n) way q right new is
      ∙ inside_passes q right is (λ p held m on leads_on. passes p (each p held) m on leads_on) n way leads
