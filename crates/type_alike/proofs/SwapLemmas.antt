-- Identity of two types is identity of the two the other way round, and identity down to a depth is so to each lesser.
use Rattle.std.proofs.Common.{◌≡◌, ◌⊎◌, inl, inr, ℕ, zero, suc, List, [], ◌∷◌, true, false, Some, None, Result, Ok, Err, refl, ap, sym, subst, ◌∙◌}
use Rattle.std.specs.Prelude.{IsOkAnd}
use Rattle.go_values.specs.declared.positions.Pos.{Pos}
use Rattle.type_terms.specs.Shapes.{SigOf, FieldOf}
use Rattle.type_terms.specs.Trees.{Text, Tree, predeclared, named, parameter, pointer, slice, array, chan, map_type, func, struct, interface, instance, union, type_list, param_list, field_list}
use Rattle.environments.specs.Exported.{exported}
use Rattle.interface_opening.specs.Terms.{Choice}
use Rattle.replacement.specs.declared.faults.SetFault.{SetFault}
use Rattle.type_sets.specs.Interfaces.{SetMethod}
use Rattle.type_sets.specs.Covering.{Answer, and_then}
use Rattle.type_sets.specs.TypeSets.{TypeSet}
use Rattle.type_alike.specs.Sides.{Sides, swapped, expanded_in}
use Rattle.type_alike.specs.Sets.{terms_alike, all_covered, set_in}
use Rattle.type_alike.specs.Identity.{InStep, IsSameSig, IsSameField, IsSameMethod, IsSameSet, SameSets, SameBase, Cases, Id}
use Rattle.type_alike.proofs.StepLemmas.{leads_to, leads_from}

answers_told : (a b : Answer) → and_then a b ≡ Ok true → (a ≡ Ok true) × (b ≡ Ok true)
answers_told (Ok true) b e = (refl, e)
answers_told (Ok false) b e = absurd cc
answers_told (Err fault) b e = absurd cc

answers_join : (a b : Answer) → a ≡ Ok true → b ≡ Ok true → and_then a b ≡ Ok true
answers_join a b e f = ap (λ x. and_then x b) e ∙ f

terms_swapped : (sides : Sides) (xs ys : Choice Tree) → terms_alike sides xs ys ≡ Ok true → terms_alike (swapped sides) ys xs ≡ Ok true
terms_swapped sides None None e = e
terms_swapped sides (Some xs) (Some ys) e =
    let left = all_covered sides.left sides.right xs ys in
    let right = all_covered sides.right sides.left ys xs in
    let both = answers_told left right e in
    answers_join right left both.1 both.0
terms_swapped sides None (Some ys) e = absurd cc
terms_swapped sides (Some xs) None e = absurd cc

both_swapped : {X : Type 0} (C D : X → X → Type 0) → ((x y : X) → C x y → D y x)
    → (r q : Result X SetFault) → IsOkAnd r (λ x. IsOkAnd q (C x)) → IsOkAnd q (λ y. IsOkAnd r (D y))
both_swapped C D each (Ok x) (Ok y) holds = each x y holds
both_swapped C D each (Ok x) (Err fault) holds = absurd holds
both_swapped C D each (Err fault) q holds = absurd holds

steps_swapped : {X : Type 0} (C D : X → X → Type 0) → ((x y : X) → C x y → D y x) → (xs ys : List X) → InStep C xs ys → InStep D ys xs
steps_swapped C D each [] [] all = tt
steps_swapped C D each (x ∷ xs) (y ∷ ys) all = (each x y all.0, steps_swapped C D each xs ys all.1)
steps_swapped C D each [] (y ∷ ys) all = absurd all
steps_swapped C D each (x ∷ xs) [] all = absurd all

base_swapped : (b c : Tree) → SameBase b c → SameBase c b
base_swapped (named p) (named q) e = sym e
base_swapped _ _ e = absurd e

module _ (S S' : Tree → Tree → Type 0) (swap : (a b : Tree) → S a b → S' b a) where
  sig_swapped : (x y : SigOf Pos Text Tree) → IsSameSig S x y → IsSameSig S' y x
  sig_swapped x y same = record {
    params = steps_swapped (λ p q. S p.type q.type) (λ p q. S' p.type q.type) (λ p q. swap p.type q.type) x.params y.params same.params;
    results = steps_swapped (λ p q. S p.type q.type) (λ p q. S' p.type q.type) (λ p q. swap p.type q.type) x.results y.results same.results;
    variadic = sym same.variadic;
  }

  homes_swapped : (name name' home other : Text) → name ≡ name' → (exported name ≡ true) ⊎ (home ≡ other) → (exported name' ≡ true) ⊎ (other ≡ home)
  homes_swapped name name' home other e (inl is) = inl (subst (λ n. exported n ≡ true) e is)
  homes_swapped name name' home other e (inr is) = inr (sym is)

  field_swapped : (home other : Text) (x y : FieldOf Pos Text Text Tree) → IsSameField S home other x y → IsSameField S' other home y x
  field_swapped home other x y same = record {
    name = sym same.name;
    embedded = sym same.embedded;
    tag = sym same.tag;
    homes = homes_swapped x.name y.name home other same.name same.homes;
    type = swap x.type y.type same.type;
  }

  method_swapped : (x y : SetMethod) → IsSameMethod S x y → IsSameMethod S' y x
  method_swapped x y same = record { name = sym same.name; home = sym same.home; sig = swap _ _ same.sig }

  set_swapped : (sides : Sides) (s t : TypeSet) → IsSameSet S sides s t → IsSameSet S' (swapped sides) t s
  set_swapped sides s t same = record {
    methods = steps_swapped (IsSameMethod S) (IsSameMethod S') method_swapped s.methods t.methods same.methods;
    flag = sym same.flag;
    terms = terms_swapped sides s.terms t.terms same.terms;
  }

  sets_swapped : (sides : Sides) (x y : Tree) → SameSets S sides x y → SameSets S' (swapped sides) y x
  sets_swapped sides x y same =
      both_swapped (IsSameSet S sides) (IsSameSet S' (swapped sides)) (set_swapped sides) (set_in sides.left x) (set_in sides.right y) same

  cases_swapped : (sides : Sides) (x y : Tree) → Cases S sides x y → Cases S' (swapped sides) y x
  cases_swapped sides (predeclared x) (predeclared y) e = sym e
  cases_swapped sides (predeclared x) (interface home embedded own) e = (e.0, sets_swapped sides (predeclared x) (interface home embedded own) e.1)
  cases_swapped sides (interface home embedded own) (predeclared y) e = (e.0, sets_swapped sides (interface home embedded own) (predeclared y) e.1)
  cases_swapped sides (interface home embedded own) (interface home' embedded' own') e = sets_swapped sides (interface home embedded own) (interface home' embedded' own') e
  cases_swapped sides (union xs) (union ys) e = sets_swapped sides (union xs) (union ys) e
  cases_swapped sides (named p) (named q) e = sym e
  cases_swapped sides (parameter p) (parameter q) e = sym e
  cases_swapped sides (pointer x) (pointer y) e = swap x y e
  cases_swapped sides (slice x) (slice y) e = swap x y e
  cases_swapped sides (array n x) (array m y) e = (sym e.0, swap x y e.1)
  cases_swapped sides (chan d x) (chan c y) e = (sym e.0, swap x y e.1)
  cases_swapped sides (map_type k x) (map_type l y) e = (swap k l e.0, swap x y e.1)
  cases_swapped sides (func home ins outs flag) (func home' ins' outs' flag') e =
      sig_swapped (record { params = param_list ins; results = param_list outs; variadic = flag })
      (record { params = param_list ins'; results = param_list outs'; variadic = flag' }) e
  cases_swapped sides (struct home xs) (struct other ys) e =
      steps_swapped (IsSameField S home other) (IsSameField S' other home) (field_swapped home other) (field_list xs) (field_list ys) e
  cases_swapped sides (instance base xs) (instance other ys) e =
      (base_swapped base other e.0, steps_swapped S S' swap (type_list xs) (type_list ys) e.1)
  cases_swapped sides _ _ e = absurd e

pub id_swapped : (sides : Sides) (n : ℕ) (a b : Tree) → Id sides n a b → Id (swapped sides) n b a
id_swapped sides zero a b id = tt
id_swapped sides (suc n) a b id =
    both_swapped (Cases (Id sides n) sides) (Cases (Id (swapped sides) n) (swapped sides))
    (cases_swapped (Id sides n) (Id (swapped sides) n) (id_swapped sides n) sides)
    (expanded_in sides.left a) (expanded_in sides.right b) id

both_weaker : {X : Type 0} (C D : X → X → Type 0) → ((x y : X) → C x y → D x y)
    → (r q : Result X SetFault) → IsOkAnd r (λ x. IsOkAnd q (C x)) → IsOkAnd r (λ x. IsOkAnd q (D x))
both_weaker C D each (Ok x) (Ok y) holds = each x y holds
both_weaker C D each (Ok x) (Err fault) holds = absurd holds
both_weaker C D each (Err fault) q holds = absurd holds

pub cases_weaker : (sides : Sides) (S S' : Tree → Tree → Type 0) → ((a b : Tree) → S a b → S' a b) → (x y : Tree) → Cases S sides x y → Cases S' sides x y
cases_weaker sides S S' weaker x y e =
    leads_from sides S' (λ p. S' p.left p.right) (λ a b holds. holds) x y
    (leads_to sides S (λ p. S' p.left p.right) weaker x y e)

pub id_below : (sides : Sides) (n : ℕ) (a b : Tree) → Id sides (suc n) a b → Id sides n a b
id_below sides zero a b id = tt
id_below sides (suc n) a b id =
    both_weaker (Cases (Id sides (suc n)) sides) (Cases (Id sides n) sides)
    (cases_weaker sides (Id sides (suc n)) (Id sides n) (id_below sides n))
    (expanded_in sides.left a) (expanded_in sides.right b) id
