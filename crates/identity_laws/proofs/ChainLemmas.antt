-- Identity of a first type with a second and of that with a third one comes to identity of the first with the third.
use Rattle.std.proofs.Common.{◌≡◌, ◌⊎◌, inl, inr, ℕ, zero, suc, List, [], ◌∷◌, ◌&&◌, Bool, true, false, cond, Option, Some, None, Result, Ok, Err, refl, ap, sym, subst, ◌∙◌}
use Rattle.std.specs.Prelude.{IsOkAnd}
use Rattle.std.specs.List.{AllByRecursion}
use Rattle.std.proofs.lemmas.Cmp.{nat_list_eq_equiv}
use Rattle.go_values.specs.declared.qualified.QName.{QName}
use Rattle.go_values.specs.declared.positions.Pos.{Pos}
use Rattle.code_tables.specs.declared.predeclared.Basic.{Basic}
use Rattle.code_tables.specs.declared.predeclared.Basic.TheVariants.{Any}
use Rattle.type_terms.specs.Shapes.{SigOf, FieldOf}
use Rattle.type_terms.specs.Trees.{Text, Tree, predeclared, named, parameter, pointer, slice, array, chan, map_type, func, struct, interface, instance, union, type_list, param_list, field_list}
use Rattle.type_terms.specs.TreeEquality.{same_text, same_flag, same_basic}
use Rattle.environments.specs.Exported.{exported}
use Rattle.interface_opening.specs.Opening.{opening}
use Rattle.pair_walk.specs.Alike.{Leads}
use Rattle.replacement.specs.declared.faults.SetFault.{SetFault}
use Rattle.replacement.specs.Expansion.{Entries, then, expanded_from}
use Rattle.type_sets.specs.Interfaces.{SetMethod}
use Rattle.type_sets.specs.Covering.{Answer, aliased}
use Rattle.type_sets.specs.TypeSets.{TypeSet, set_limit, type_set}
use Rattle.type_alike.specs.Sides.{Side, Pair, pair, settle, expanded_in}
use Rattle.type_alike.specs.Demands.{sets_where}
use Rattle.type_alike.specs.Sets.{same_keys, method_pairs, terms_alike, same_heads, set_parts, set_in, by_sets}
use Rattle.type_alike.specs.Identity.{InStep, IsSameSig, IsSameField, IsSameMethod, IsSameSet, SameSets, SameBase, Cases, Id}
use Rattle.type_alike.specs.Comparing.{answered, steps}
use Rattle.type_alike.proofs.StepLemmas.{leads_to, leads_from}
use Rattle.identity_laws.specs.Equivalence.{between, WhereTold, NoFault, IsTold, CoveringComposes}

-- a type that a second one is between
abbrev Between : (Tree → Tree → Type 0) → (Tree → Tree → Type 0) → Tree → Tree → Type 0
Between S R a c = (b : Tree) × S a b × R b c

abbrev empty_set : TypeSet
empty_set = record { methods = []; flag = false; terms = None }

any_set : (entries : Entries) (names : List QName) → type_set entries names (predeclared Any) ≡ Ok empty_set
unfolding set_limit expanded_from opening
any_set entries [] = refl
any_set entries (q ∷ names) = refl

any_told : (x : Basic) → aliased x ≡ Any → x ≡ Any
any_told Any e = refl
any_told _ e = absurd cc

any_same : (x : Basic) → x ≡ Any → same_basic Any x ≡ true
any_same x e = subst (λ y. same_basic Any y ≡ true) (sym e) refl

any_pair : (S : Tree → Tree → Type 0) (k n : Side) → SameSets S (between k n) (predeclared Any) (predeclared Any)
any_pair S k n =
    subst (λ f. IsOkAnd f (λ s. IsOkAnd (set_in n (predeclared Any)) (IsSameSet S (between k n) s))) (sym (any_set k.entries k.names))
    (subst (λ g. IsOkAnd g (IsSameSet S (between k n) empty_set)) (sym (any_set n.entries n.names))
    (record { methods = tt; flag = refl; terms = refl }))

any_alike : (S : Tree → Tree → Type 0) (k n : Side) (x y : Basic) → x ≡ Any → y ≡ Any
    → SameSets S (between k n) (predeclared x) (predeclared y)
any_alike S k n x y e f =
    subst (λ z. SameSets S (between k n) (predeclared z) (predeclared y)) (sym e)
    (subst (λ z. SameSets S (between k n) (predeclared Any) (predeclared z)) (sym f) (any_pair S k n))

steps_chained : {X : Type 0} (C D E : X → X → Type 0) → ((x y z : X) → C x y → D y z → E x z)
    → (xs ys zs : List X) → InStep C xs ys → InStep D ys zs → InStep E xs zs
steps_chained C D E each [] [] [] p q = tt
steps_chained C D E each (x ∷ xs) (y ∷ ys) (z ∷ zs) p q =
    (each x y z p.0 q.0, steps_chained C D E each xs ys zs p.1 q.1)
steps_chained C D E each [] (y ∷ ys) zs p q = absurd p
steps_chained C D E each (x ∷ xs) [] zs p q = absurd p
steps_chained C D E each [] [] (z ∷ zs) p q = absurd q
steps_chained C D E each (x ∷ xs) (y ∷ ys) [] p q = absurd q

base_chained : (b c d : Tree) → SameBase b c → SameBase c d → SameBase b d
base_chained (named p) (named q) (named r) e f = e ∙ f
base_chained (named p) (named q) _ e f = absurd f
base_chained _ _ _ e f = absurd e

text_same : (x y : Text) → x ≡ y → same_text x y ≡ true
text_same x y e = subst (λ z. same_text x z ≡ true) e (nat_list_eq_equiv.refl x)

flag_itself : (x : Bool) → same_flag x x ≡ true
flag_itself true = refl
flag_itself false = refl

flag_same : (x y : Bool) → x ≡ y → same_flag x y ≡ true
flag_same x y e = subst (λ z. same_flag x z ≡ true) e (flag_itself x)

keys_same : (S : Tree → Tree → Type 0) (xs ys : List SetMethod) → InStep (IsSameMethod S) xs ys → same_keys xs ys ≡ true
keys_same S [] [] all = refl
keys_same S (x ∷ xs) (y ∷ ys) all = λ i.
    (text_same x.name y.name all.0.name i && text_same x.home y.home all.0.home i) && keys_same S xs ys all.1 i
keys_same S [] (y ∷ ys) all = absurd all
keys_same S (x ∷ xs) [] all = absurd all

homes_chained : (name name' : Text) (h i j : Text) → name ≡ name' → (exported name ≡ true) ⊎ (h ≡ i)
    → (exported name' ≡ true) ⊎ (i ≡ j) → (exported name ≡ true) ⊎ (h ≡ j)
homes_chained name name' h i j e (inl is) q = inl is
homes_chained name name' h i j e (inr is) (inl so) = inl (subst (λ n. exported n ≡ true) (sym e) so)
homes_chained name name' h i j e (inr is) (inr so) = inr (is ∙ so)

-- terms are told where the heads are the same
terms_told : (T : Pair → Type 0) (b : Bool) (answer : Answer) (ps : List Pair) → b ≡ true
    → WhereTold T (cond b (then answer (λ alike. Ok (cond alike (Some ps) None))) (Ok None)) → IsTold answer
terms_told T true (Ok alike) ps e told = tt
terms_told T true (Err fault) ps e told = absurd told
terms_told T false answer ps e told = absurd cc

-- what is led to and what is told, together
both_hold : (settle : Pair → Result Pair SetFault) (walk : Pair → Result (Option (List Pair)) SetFault)
    (P T Q : Pair → Type 0) → ((x : Pair) → P x → T x → Q x) → (ps : List Pair)
    → AllByRecursion P ps → AllByRecursion T ps → AllByRecursion Q ps
both_hold settle walk P T Q each [] p t = tt
both_hold settle walk P T Q each (x ∷ xs) p t = (each x p.0 t.0, both_hold settle walk P T Q each xs p.1 t.1)

led_and_told : (settle : Pair → Result Pair SetFault) (walk : Pair → Result (Option (List Pair)) SetFault)
    (P T Q : Pair → Type 0) → ((x : Pair) → P x → T x → Q x) → (r : Result (Option (List Pair)) SetFault)
    → Leads settle walk P r → WhereTold T r → Leads settle walk Q r
led_and_told settle walk P T Q each (Ok (Some ps)) p t = both_hold settle walk P T Q each ps p t
led_and_told settle walk P T Q each (Ok None) p t = absurd p
led_and_told settle walk P T Q each (Err fault) p t = absurd p

module _ (l m r : Side) (composes : CoveringComposes l m r) (S R : Tree → Tree → Type 0) (T : Pair → Type 0) where
  chain : (a b c : Tree) → S a b → R b c → Between S R a c
  chain a b c p q = (b, p, q)

  sig_chained : (x y z : SigOf Pos Text Tree) → IsSameSig S x y → IsSameSig R y z → IsSameSig (Between S R) x z
  sig_chained x y z p q = record {
    params = steps_chained (λ a b. S a.type b.type) (λ b c. R b.type c.type) (λ a c. Between S R a.type c.type)
        (λ a b c. chain a.type b.type c.type) x.params y.params z.params p.params q.params;
    results = steps_chained (λ a b. S a.type b.type) (λ b c. R b.type c.type) (λ a c. Between S R a.type c.type)
        (λ a b c. chain a.type b.type c.type) x.results y.results z.results p.results q.results;
    variadic = p.variadic ∙ q.variadic;
  }

  field_chained : (h i j : Text) (x y z : FieldOf Pos Text Text Tree) → IsSameField S h i x y → IsSameField R i j y z
      → IsSameField (Between S R) h j x z
  field_chained h i j x y z p q = record {
    name = p.name ∙ q.name;
    embedded = p.embedded ∙ q.embedded;
    tag = p.tag ∙ q.tag;
    homes = homes_chained x.name y.name h i j p.name p.homes q.homes;
    type = chain x.type y.type z.type p.type q.type;
  }

  method_chained : (x y z : SetMethod) → IsSameMethod S x y → IsSameMethod R y z → IsSameMethod (Between S R) x z
  method_chained x y z p q = record { name = p.name ∙ q.name; home = p.home ∙ q.home; sig = chain _ _ _ p.sig q.sig }

  set_chained : (x y z : Tree) (s t u : TypeSet) → set_in l x ≡ Ok s → set_in m y ≡ Ok t → set_in r z ≡ Ok u
      → IsSameSet S (between l m) s t → IsSameSet R (between m r) t u → WhereTold T (set_parts (between l r) s u)
      → IsSameSet (Between S R) (between l r) s u
  set_chained x y z s t u e f g p q told =
      let methods = steps_chained (IsSameMethod S) (IsSameMethod R) (IsSameMethod (Between S R)) method_chained s.methods t.methods u.methods p.methods q.methods in
      let flag = p.flag ∙ q.flag in
      let keys = keys_same (Between S R) s.methods u.methods methods in
      let heads : same_heads s u ≡ true = λ i. keys i && flag_same s.flag u.flag flag i in
      record {
        methods = methods;
        flag = flag;
        terms = composes x y z s t u e f g p.terms q.terms (terms_told T (same_heads s u) (terms_alike (between l r) s.terms u.terms) (method_pairs s.methods u.methods) heads told);
      }

  found_chained : (x y z : Tree) (f g h : Result TypeSet SetFault) → set_in l x ≡ f → set_in m y ≡ g → set_in r z ≡ h
      → IsOkAnd f (λ s. IsOkAnd g (IsSameSet S (between l m) s)) → IsOkAnd g (λ t. IsOkAnd h (IsSameSet R (between m r) t))
      → WhereTold T (then f (λ s. then h (set_parts (between l r) s))) → IsOkAnd f (λ s. IsOkAnd h (IsSameSet (Between S R) (between l r) s))
  found_chained x y z (Ok s) (Ok t) (Ok u) e f g p q told = set_chained x y z s t u e f g p q told
  found_chained x y z (Err fault) g h e f k p q told = absurd p
  found_chained x y z (Ok s) (Err fault) h e f k p q told = absurd p
  found_chained x y z (Ok s) (Ok t) (Err fault) e f k p q told = absurd q

  sets_chained : (x y z : Tree) → SameSets S (between l m) x y → SameSets R (between m r) y z
      → WhereTold T (by_sets (between l r) (pair x z)) → SameSets (Between S R) (between l r) x z
  sets_chained x y z p q told = found_chained x y z (set_in l x) (set_in m y) (set_in r z) refl refl refl p q told

  sets_told : (p : Pair) (b : Bool) → b ≡ true → WhereTold T (answered (between l r) p (sets_where b)) → WhereTold T (by_sets (between l r) p)
  sets_told p true e told = told
  sets_told p false e told = absurd cc

  cases_chained : (x y z : Tree) → Cases S (between l m) x y → Cases R (between m r) y z
      → WhereTold T (steps (between l r) (pair x z)) → Cases (Between S R) (between l r) x z
  cases_chained (predeclared x) (predeclared y) (predeclared z) e f told = e ∙ f
  cases_chained (predeclared x) (predeclared y) (interface h is os) e f told =
      let is_any = any_told x (e ∙ ap aliased f.0) in (
        is_any,
        sets_chained (predeclared x) (predeclared y) (interface h is os) (any_alike S l m x y is_any f.0) f.1
            (sets_told (pair (predeclared x) (interface h is os)) (same_basic Any x) (any_same x is_any) told),
      )
  cases_chained (predeclared x) (interface h is os) (predeclared z) e f told = ap aliased (e.0 ∙ sym f.0)
  cases_chained (predeclared x) (interface h is os) (interface h' is' os') e f told = (
    e.0,
    sets_chained (predeclared x) (interface h is os) (interface h' is' os') e.1 f
        (sets_told (pair (predeclared x) (interface h' is' os')) (same_basic Any x) (any_same x e.0) told),
  )
  cases_chained (interface h is os) (predeclared y) (predeclared z) e f told =
      let is_any = any_told z (sym f ∙ ap aliased e.0) in (
        is_any,
        sets_chained (interface h is os) (predeclared y) (predeclared z) e.1 (any_alike R m r y z e.0 is_any)
            (sets_told (pair (interface h is os) (predeclared z)) (same_basic Any z) (any_same z is_any) told),
      )
  cases_chained (interface h is os) (predeclared y) (interface h' is' os') e f told =
      sets_chained (interface h is os) (predeclared y) (interface h' is' os') e.1 f.1 told
  cases_chained (interface h is os) (interface h' is' os') (predeclared z) e f told = (
    f.0,
    sets_chained (interface h is os) (interface h' is' os') (predeclared z) e f.1
        (sets_told (pair (interface h is os) (predeclared z)) (same_basic Any z) (any_same z f.0) told),
  )
  cases_chained (interface h is os) (interface h' is' os') (interface h'' is'' os'') e f told =
      sets_chained (interface h is os) (interface h' is' os') (interface h'' is'' os'') e f told
  cases_chained (union xs) (union ys) (union zs) e f told = sets_chained (union xs) (union ys) (union zs) e f told
  cases_chained (named p) (named q) (named s) e f told = e ∙ f
  cases_chained (parameter p) (parameter q) (parameter s) e f told = e ∙ f
  cases_chained (pointer x) (pointer y) (pointer z) e f told = chain x y z e f
  cases_chained (slice x) (slice y) (slice z) e f told = chain x y z e f
  cases_chained (array i x) (array j y) (array k z) e f told = (e.0 ∙ f.0, chain x y z e.1 f.1)
  cases_chained (chan i x) (chan j y) (chan k z) e f told = (e.0 ∙ f.0, chain x y z e.1 f.1)
  cases_chained (map_type i x) (map_type j y) (map_type k z) e f told = (chain i j k e.0 f.0, chain x y z e.1 f.1)
  cases_chained (func h ins outs flag) (func h' ins' outs' flag') (func h'' ins'' outs'' flag'') e f told =
      sig_chained (record { params = param_list ins; results = param_list outs; variadic = flag })
      (record { params = param_list ins'; results = param_list outs'; variadic = flag' })
      (record { params = param_list ins''; results = param_list outs''; variadic = flag'' }) e f
  cases_chained (struct h xs) (struct i ys) (struct j zs) e f told =
      steps_chained (IsSameField S h i) (IsSameField R i j) (IsSameField (Between S R) h j) (field_chained h i j)
      (field_list xs) (field_list ys) (field_list zs) e f
  cases_chained (instance b xs) (instance c ys) (instance d zs) e f told = (
    base_chained b c d e.0 f.0,
    steps_chained S R (Between S R) chain (type_list xs) (type_list ys) (type_list zs) e.1 f.1,
  )
  cases_chained (predeclared x) (predeclared y) _ e f told = absurd f
  cases_chained (predeclared x) (interface h is os) _ e f told = absurd f
  cases_chained (interface h is os) (predeclared y) _ e f told = absurd f
  cases_chained (interface h is os) (interface h' is' os') _ e f told = absurd f
  cases_chained (union xs) (union ys) _ e f told = absurd f
  cases_chained (named p) (named q) _ e f told = absurd f
  cases_chained (parameter p) (parameter q) _ e f told = absurd f
  cases_chained (pointer x) (pointer y) _ e f told = absurd f
  cases_chained (slice x) (slice y) _ e f told = absurd f
  cases_chained (array i x) (array j y) _ e f told = absurd f
  cases_chained (chan i x) (chan j y) _ e f told = absurd f
  cases_chained (map_type i x) (map_type j y) _ e f told = absurd f
  cases_chained (func h ins outs flag) (func h' ins' outs' flag') _ e f told = absurd f
  cases_chained (struct h xs) (struct i ys) _ e f told = absurd f
  cases_chained (instance b xs) (instance c ys) _ e f told = absurd f
  cases_chained _ _ _ e f told = absurd e

module _ (l m r : Side) (composes : CoveringComposes l m r) where
  abbrev Both : ℕ → Tree → Tree → Type 0
  Both n = Between (Id (between l m) n) (Id (between m r) n)

  ends_chained : (n : ℕ) → ((p : Pair) → Both n p.left p.right → NoFault (between l r) n p → Id (between l r) n p.left p.right)
      → (f g h : Result Tree SetFault) → IsOkAnd f (λ x. IsOkAnd g (Cases (Id (between l m) n) (between l m) x))
      → IsOkAnd g (λ y. IsOkAnd h (Cases (Id (between m r) n) (between m r) y))
      → IsOkAnd (then f (λ x. then h (λ z. Ok (pair x z)))) (λ q. WhereTold (NoFault (between l r) n) (steps (between l r) q))
      → IsOkAnd f (λ x. IsOkAnd h (Cases (Id (between l r) n) (between l r) x))
  ends_chained n each (Ok x) (Ok y) (Ok z) p q told =
      let chained = cases_chained l m r composes (Id (between l m) n) (Id (between m r) n) (NoFault (between l r) n) x y z p q told in
      leads_from (between l r) (Id (between l r) n) (λ p. Id (between l r) n p.left p.right) (λ a b holds. holds) x z
      (led_and_told (settle (between l r)) (steps (between l r)) (λ p. Both n p.left p.right) (NoFault (between l r) n)
      (λ p. Id (between l r) n p.left p.right) each (steps (between l r) (pair x z))
      (leads_to (between l r) (Both n) (λ p. Both n p.left p.right) (λ a b holds. holds) x z chained) told)
  ends_chained n each (Err fault) g h p q told = absurd p
  ends_chained n each (Ok x) (Err fault) h p q told = absurd p
  ends_chained n each (Ok x) (Ok y) (Err fault) p q told = absurd q

  pub id_chained : (n : ℕ) (a b d : Tree) → Id (between l m) n a b → Id (between m r) n b d
      → NoFault (between l r) n (pair a d) → Id (between l r) n a d
  id_chained zero a b d p q told = tt
  id_chained (suc n) a b d p q told =
      ends_chained n (λ x both told. id_chained n x.left both.0 x.right both.1 both.2 told)
      (expanded_in l a) (expanded_in m b) (expanded_in r d) p q told
