-- The steps of a comparison lead to what the cases of identity ask for, and to nothing else.
use Rattle.std.proofs.Common.{◌≡◌, ◌⊎◌, inl, inr, ℕ, suc, List, [], ◌∷◌, map, length, ◌&&◌, ◌||◌, nat_eq, Bool, true, false, cond, Option, Some, None, Result, Ok, Err, refl, ap, sym, subst, arith}
use Rattle.std.specs.Prelude.{IsOkAnd}
use Rattle.std.specs.List.{AllByRecursion}
use Rattle.std.proofs.lemmas.Bool.{and_parts, eqb-true, or_left, or_right}
use Rattle.std.proofs.lemmas.Cmp.{nat_list_eq_equiv, nat_eq_equiv}
use Rattle.go_values.specs.Exact.{exact_bytes, exact_qname}
use Rattle.code_tables.specs.Exact.{exact_basic}
use Rattle.go_values.specs.declared.qualified.QName.{QName}
use Rattle.go_values.specs.declared.positions.Pos.{Pos}
use Rattle.code_tables.specs.declared.predeclared.Basic.{Basic}
use Rattle.code_tables.specs.declared.predeclared.Basic.TheVariants.{Any}
use Rattle.go_values.specs.contracts.qualified.QNameEq.TheImpl.Laws as qname_laws
use Rattle.code_tables.specs.contracts.predeclared.BasicEq.TheImpl.Laws as basic_laws
use Rattle.type_terms.specs.declared.literals.Dir.{Dir}
use Rattle.type_terms.specs.declared.literals.Dir.TheVariants.{Receive, Send, Both}
use Rattle.type_terms.specs.Names.{defined_name}
use Rattle.type_terms.specs.Replaced.{all_left, all_right, all_append}
use Rattle.type_terms.specs.Shapes.{SigOf, FieldOf}
use Rattle.type_terms.specs.Trees.{Text, Tree, predeclared, named, parameter, pointer, slice, array, chan, map_type, func, struct, interface, instance, union, type_list, param_list, field_list}
use Rattle.type_terms.specs.TreeEquality.{same_text, same_basic, same_name, same_flag, same_dir}
use Rattle.environments.specs.Exported.{exported}
use Rattle.pair_walk.specs.Alike.{Leads}
use Rattle.replacement.specs.declared.faults.SetFault.{SetFault}
use Rattle.replacement.specs.Expansion.{then}
use Rattle.type_sets.specs.Interfaces.{SetMethod, same_key}
use Rattle.type_sets.specs.Covering.{Answer, aliased, same_length}
use Rattle.type_sets.specs.TypeSets.{TypeSet}
use Rattle.type_alike.specs.Sides.{Sides, Pair, pair, settle}
use Rattle.type_alike.specs.Demands.{parts_where, sets_where, same_generic, param_parts, field_parts, same_field, same_fields, same_form, in_step, sig_pairs}
use Rattle.type_alike.specs.Sets.{signature, same_keys, method_pairs, terms_alike, same_heads, set_parts, set_in, by_sets}
use Rattle.type_alike.specs.Identity.{InStep, IsSameSig, IsSameField, IsSameMethod, IsSameSet, SameSets, SameBase, Cases}
use Rattle.type_alike.specs.Comparing.{answered, steps}

-- tests and what they tell

both : (a b : Bool) → a ≡ true → b ≡ true → (a && b) ≡ true
both a b p q = λ i. p i && q i

name_itself : (p q : QName) → p ≡ q → same_name p q ≡ true
name_itself p q e = subst (λ r. same_name p r ≡ true) e (qname_laws.laws-law.refl p)

basic_itself : (x y : Basic) → x ≡ y → same_basic x y ≡ true
basic_itself x y e = subst (λ z. same_basic x z ≡ true) e (basic_laws.laws-law.refl x)

text_itself : (x y : Text) → x ≡ y → same_text x y ≡ true
text_itself x y e = subst (λ z. same_text x z ≡ true) e (nat_list_eq_equiv.refl x)

nat_itself : (x y : ℕ) → x ≡ y → nat_eq x y ≡ true
nat_itself x y e = subst (λ z. nat_eq x z ≡ true) e (nat_eq_equiv.refl x)

flag_same : (x : Bool) → same_flag x x ≡ true
flag_same true = refl
flag_same false = refl

flag_itself : (x y : Bool) → x ≡ y → same_flag x y ≡ true
flag_itself x y e = subst (λ z. same_flag x z ≡ true) e (flag_same x)

flag_told : (x y : Bool) → same_flag x y ≡ true → x ≡ y
flag_told true true h = refl
flag_told false false h = refl
flag_told true false h = absurd cc
flag_told false true h = absurd cc

dir_same : (x : Dir) → same_dir x x ≡ true
dir_same Receive = refl
dir_same Send = refl
dir_same Both = refl

dir_itself : (x y : Dir) → x ≡ y → same_dir x y ≡ true
dir_itself x y e = subst (λ z. same_dir x z ≡ true) e (dir_same x)

dir_told : (x y : Dir) → same_dir x y ≡ true → x ≡ y
dir_told Receive Receive h = refl
dir_told Send Send h = refl
dir_told Both Both h = refl
dir_told _ _ h = absurd cc

same_base_to : (b c : Tree) → SameBase b c → same_generic (defined_name b) (defined_name c) ≡ true
same_base_to (named p) (named q) e = name_itself p q e
same_base_to _ _ e = absurd e

same_base_from : (b c : Tree) → same_generic (defined_name b) (defined_name c) ≡ true → SameBase b c
same_base_from (named p) (named q) e = exact_qname p q e
same_base_from _ _ e = absurd cc

either : (a b : Bool) → (a || b) ≡ true → (a ≡ true) ⊎ (b ≡ true)
either true b e = inl refl
either false b e = inr e

either_is : (a b : Bool) → (a ≡ true) ⊎ (b ≡ true) → (a || b) ≡ true
either_is a b (inl e) = or_left a b e
either_is a b (inr e) = or_right a b e

module _ (sides : Sides) (S : Tree → Tree → Type 0) (T : Pair → Type 0) where
  abbrev Led : Result (Option (List Pair)) SetFault → Type 0
  Led r = Leads (settle sides) (steps sides) T r

  -- what is led to, where a test decides
  parts_to : (x : Pair) (b : Bool) (ps : List Pair) → b ≡ true → AllByRecursion T ps → Led (answered sides x (parts_where b ps))
  parts_to x true ps e all = all
  parts_to x false ps e all = absurd cc

  parts_from : (x : Pair) (b : Bool) (ps : List Pair) → Led (answered sides x (parts_where b ps)) → (b ≡ true) × AllByRecursion T ps
  parts_from x true ps all = (refl, all)
  parts_from x false ps all = absurd all

  sets_to : (x : Pair) (b : Bool) → b ≡ true → Led (by_sets sides x) → Led (answered sides x (sets_where b))
  sets_to x true e all = all
  sets_to x false e all = absurd cc

  sets_from : (x : Pair) (b : Bool) → Led (answered sides x (sets_where b)) → (b ≡ true) × Led (by_sets sides x)
  sets_from x true all = (refl, all)
  sets_from x false all = absurd all

  set_parts_to : (b : Bool) (r : Answer) (ps : List Pair) → b ≡ true → r ≡ Ok true → AllByRecursion T ps
      → Led (cond b (then r (λ alike. Ok (cond alike (Some ps) None))) (Ok None))
  set_parts_to true (Ok true) ps e f all = all
  set_parts_to true (Ok false) ps e f all = absurd cc
  set_parts_to true (Err fault) ps e f all = absurd cc
  set_parts_to false r ps e f all = absurd cc

  set_parts_from : (b : Bool) (r : Answer) (ps : List Pair)
      → Led (cond b (then r (λ alike. Ok (cond alike (Some ps) None))) (Ok None))
      → (b ≡ true) × (r ≡ Ok true) × AllByRecursion T ps
  set_parts_from true (Ok true) ps all = (refl, refl, all)
  set_parts_from true (Ok false) ps all = absurd all
  set_parts_from true (Err fault) ps all = absurd all
  set_parts_from false r ps all = absurd all

  module _ (step : (a b : Tree) → S a b → T (pair a b)) where
    listed_to : {X : Type 0} (type : X → Tree) (xs ys : List X) → InStep (λ x y. S (type x) (type y)) xs ys
        → (length xs ≡ length ys) × AllByRecursion T (in_step defined_name pair (map type xs) (map type ys))
    listed_to type [] [] all = (refl, tt)
    listed_to type (x ∷ xs) (y ∷ ys) all =
        let rest = listed_to type xs ys all.1 in
        (ap suc rest.0, (step (type x) (type y) all.0, rest.1))
    listed_to type [] (y ∷ ys) all = absurd all
    listed_to type (x ∷ xs) [] all = absurd all

    types_to : (xs ys : List Tree) → InStep S xs ys → (length xs ≡ length ys) × AllByRecursion T (in_step defined_name pair xs ys)
    types_to [] [] all = (refl, tt)
    types_to (x ∷ xs) (y ∷ ys) all =
        let rest = types_to xs ys all.1 in
        (ap suc rest.0, (step x y all.0, rest.1))
    types_to [] (y ∷ ys) all = absurd all
    types_to (x ∷ xs) [] all = absurd all

    sig_to : (x y : SigOf Pos Text Tree) → IsSameSig S x y → (same_form x y ≡ true) × AllByRecursion T (sig_pairs defined_name pair x y)
    sig_to x y same =
        let ins = listed_to (λ p. p.type) x.params y.params same.params in
        let outs = listed_to (λ p. p.type) x.results y.results same.results in (
          both _ _ (flag_itself x.variadic y.variadic same.variadic)
              (both _ _ (nat_itself (length x.params) (length y.params) ins.0) (nat_itself (length x.results) (length y.results) outs.0)),
          all_append T (in_step defined_name pair (param_parts x.params) (param_parts y.params)) (in_step defined_name pair (param_parts x.results) (param_parts y.results)) ins.1 outs.1,
        )

    home_to : (name home other : Text) → (exported name ≡ true) ⊎ (home ≡ other) → (exported name || same_text home other) ≡ true
    home_to name home other (inl e) = or_left (exported name) (same_text home other) e
    home_to name home other (inr e) = or_right (exported name) (same_text home other) (text_itself home other e)

    field_to : (home other : Text) (x y : FieldOf Pos Text Text Tree) → IsSameField S home other x y → same_field home other x y ≡ true
    field_to home other x y same =
        both _ _ (text_itself x.name y.name same.name) (both _ _ (flag_itself x.embedded y.embedded same.embedded)
        (both _ _ (text_itself x.tag y.tag same.tag) (home_to x.name home other same.homes)))

    fields_to : (home other : Text) (xs ys : List (FieldOf Pos Text Text Tree)) → InStep (IsSameField S home other) xs ys
        → (same_fields home other xs ys ≡ true) × AllByRecursion T (in_step defined_name pair (field_parts xs) (field_parts ys))
    fields_to home other [] [] all = (refl, tt)
    fields_to home other (x ∷ xs) (y ∷ ys) all =
        let rest = fields_to home other xs ys all.1 in
        (both _ _ (field_to home other x y all.0) rest.0, (step x.type y.type all.0.type, rest.1))
    fields_to home other [] (y ∷ ys) all = absurd all
    fields_to home other (x ∷ xs) [] all = absurd all

    methods_to : (xs ys : List SetMethod) → InStep (IsSameMethod S) xs ys → (same_keys xs ys ≡ true) × AllByRecursion T (method_pairs xs ys)
    methods_to [] [] all = (refl, tt)
    methods_to (x ∷ xs) (y ∷ ys) all =
        let rest = methods_to xs ys all.1 in (
          both _ _ (both _ _ (text_itself x.name y.name all.0.name) (text_itself x.home y.home all.0.home)) rest.0,
          (step (signature x.sig) (signature y.sig) all.0.sig, rest.1),
        )
    methods_to [] (y ∷ ys) all = absurd all
    methods_to (x ∷ xs) [] all = absurd all

    set_to : (s t : TypeSet) → IsSameSet S sides s t → Led (set_parts sides s t)
    set_to s t same =
        let all = methods_to s.methods t.methods same.methods in
        set_parts_to (same_heads s t) (terms_alike sides s.terms t.terms) (method_pairs s.methods t.methods)
        (both _ _ all.0 (flag_itself s.flag t.flag same.flag)) same.terms all.1

    found_to : (r q : Result TypeSet SetFault) → IsOkAnd r (λ s. IsOkAnd q (IsSameSet S sides s)) → Led (then r (λ s. then q (set_parts sides s)))
    found_to (Ok s) (Ok t) same = set_to s t same
    found_to (Ok s) (Err fault) same = absurd same
    found_to (Err fault) q same = absurd same

    by_sets_to : (x y : Tree) → SameSets S sides x y → Led (by_sets sides (pair x y))
    by_sets_to x y same = found_to (set_in sides.left x) (set_in sides.right y) same

    pub leads_to : (x y : Tree) → Cases S sides x y → Led (steps sides (pair x y))
    leads_to (predeclared x) (predeclared y) e = parts_to _ (same_basic (aliased x) (aliased y)) [] (basic_itself (aliased x) (aliased y) e) tt
    leads_to (predeclared x) (interface home embedded own) e =
        sets_to _ (same_basic Any x) (basic_itself Any x (sym e.0)) (by_sets_to (predeclared x) (interface home embedded own) e.1)
    leads_to (interface home embedded own) (predeclared y) e =
        sets_to _ (same_basic Any y) (basic_itself Any y (sym e.0)) (by_sets_to (interface home embedded own) (predeclared y) e.1)
    leads_to (interface home embedded own) (interface home' embedded' own') e = by_sets_to (interface home embedded own) (interface home' embedded' own') e
    leads_to (union xs) (union ys) e = by_sets_to (union xs) (union ys) e
    leads_to (named p) (named q) e = parts_to _ (same_name p q) [] (name_itself p q e) tt
    leads_to (parameter p) (parameter q) e = parts_to _ (same_name p q) [] (name_itself p q e) tt
    leads_to (pointer x) (pointer y) e = (step x y e, tt)
    leads_to (slice x) (slice y) e = (step x y e, tt)
    leads_to (array n x) (array m y) e = parts_to _ (nat_eq n m) (pair x y ∷ []) (nat_itself n m e.0) (step x y e.1, tt)
    leads_to (chan d x) (chan c y) e = parts_to _ (same_dir d c) (pair x y ∷ []) (dir_itself d c e.0) (step x y e.1, tt)
    leads_to (map_type k x) (map_type l y) e = (step k l e.0, (step x y e.1, tt))
    leads_to (func home ins outs flag) (func home' ins' outs' flag') e =
        let x : SigOf Pos Text Tree = record { params = param_list ins; results = param_list outs; variadic = flag } in
        let y : SigOf Pos Text Tree = record { params = param_list ins'; results = param_list outs'; variadic = flag' } in
        let all = sig_to x y e in
        parts_to _ (same_form x y) (sig_pairs defined_name pair x y) all.0 all.1
    leads_to (struct home xs) (struct other ys) e =
        let all = fields_to home other (field_list xs) (field_list ys) e in
        parts_to _ (same_fields home other (field_list xs) (field_list ys)) (in_step defined_name pair (field_parts (field_list xs)) (field_parts (field_list ys))) all.0 all.1
    leads_to (instance base xs) (instance other ys) e =
        let all = types_to (type_list xs) (type_list ys) e.1 in
        parts_to _ (same_generic (defined_name base) (defined_name other) && same_length (type_list xs) (type_list ys))
        (in_step defined_name pair (type_list xs) (type_list ys))
        (both _ _ (same_base_to base other e.0) (nat_itself (length (type_list xs)) (length (type_list ys)) all.0)) all.1
    leads_to _ _ e = absurd e

  module _ (step : (a b : Tree) → T (pair a b) → S a b) where
    listed_from : {X : Type 0} (type : X → Tree) (xs ys : List X) → length xs ≡ length ys
        → AllByRecursion T (in_step defined_name pair (map type xs) (map type ys)) → InStep (λ x y. S (type x) (type y)) xs ys
    listed_from type [] [] e all = tt
    listed_from type (x ∷ xs) (y ∷ ys) e all = (step (type x) (type y) all.0, listed_from type xs ys (omega (arith, e)) all.1)
    listed_from type [] (y ∷ ys) e all = absurd (omega (arith, e))
    listed_from type (x ∷ xs) [] e all = absurd (omega (arith, e))

    types_from : (xs ys : List Tree) → length xs ≡ length ys → AllByRecursion T (in_step defined_name pair xs ys) → InStep S xs ys
    types_from [] [] e all = tt
    types_from (x ∷ xs) (y ∷ ys) e all = (step x y all.0, types_from xs ys (omega (arith, e)) all.1)
    types_from [] (y ∷ ys) e all = absurd (omega (arith, e))
    types_from (x ∷ xs) [] e all = absurd (omega (arith, e))

    sig_from : (x y : SigOf Pos Text Tree) → same_form x y ≡ true → AllByRecursion T (sig_pairs defined_name pair x y) → IsSameSig S x y
    sig_from x y e all =
        let a = and_parts (same_flag x.variadic y.variadic) (same_length x.params y.params && same_length x.results y.results) e in
        let b = and_parts (same_length x.params y.params) (same_length x.results y.results) a.1 in
        let ins = in_step defined_name pair (param_parts x.params) (param_parts y.params) in
        let outs = in_step defined_name pair (param_parts x.results) (param_parts y.results) in
        record {
          params = listed_from (λ p. p.type) x.params y.params (eqb-true (length x.params) (length y.params) b.0) (all_left T ins outs all);
          results = listed_from (λ p. p.type) x.results y.results (eqb-true (length x.results) (length y.results) b.1) (all_right T ins outs all);
          variadic = flag_told x.variadic y.variadic a.0;
        }

    home_from : (name home other : Text) → (exported name ≡ true) ⊎ (same_text home other ≡ true) → (exported name ≡ true) ⊎ (home ≡ other)
    home_from name home other (inl e) = inl e
    home_from name home other (inr e) = inr (exact_bytes home other e)

    field_from : (home other : Text) (x y : FieldOf Pos Text Text Tree) → same_field home other x y ≡ true → S x.type y.type → IsSameField S home other x y
    field_from home other x y e same =
        let homes = exported x.name || same_text home other in
        let a = and_parts (same_text x.name y.name) (same_flag x.embedded y.embedded && (same_text x.tag y.tag && homes)) e in
        let b = and_parts (same_flag x.embedded y.embedded) (same_text x.tag y.tag && homes) a.1 in
        let c = and_parts (same_text x.tag y.tag) homes b.1 in
        record {
          name = exact_bytes x.name y.name a.0;
          embedded = flag_told x.embedded y.embedded b.0;
          tag = exact_bytes x.tag y.tag c.0;
          homes = home_from x.name home other (either (exported x.name) (same_text home other) c.1);
          type = same;
        }

    fields_from : (home other : Text) (xs ys : List (FieldOf Pos Text Text Tree)) → same_fields home other xs ys ≡ true
        → AllByRecursion T (in_step defined_name pair (field_parts xs) (field_parts ys)) → InStep (IsSameField S home other) xs ys
    fields_from home other [] [] e all = tt
    fields_from home other (x ∷ xs) (y ∷ ys) e all =
        let a = and_parts (same_field home other x y) (same_fields home other xs ys) e in
        (field_from home other x y a.0 (step x.type y.type all.0), fields_from home other xs ys a.1 all.1)
    fields_from home other [] (y ∷ ys) e all = absurd cc
    fields_from home other (x ∷ xs) [] e all = absurd cc

    methods_from : (xs ys : List SetMethod) → same_keys xs ys ≡ true → AllByRecursion T (method_pairs xs ys) → InStep (IsSameMethod S) xs ys
    methods_from [] [] e all = tt
    methods_from (x ∷ xs) (y ∷ ys) e all =
        let a = and_parts (same_key x y) (same_keys xs ys) e in
        let b = and_parts (same_text x.name y.name) (same_text x.home y.home) a.0 in (
          record { name = exact_bytes x.name y.name b.0; home = exact_bytes x.home y.home b.1; sig = step (signature x.sig) (signature y.sig) all.0 },
          methods_from xs ys a.1 all.1,
        )
    methods_from [] (y ∷ ys) e all = absurd cc
    methods_from (x ∷ xs) [] e all = absurd cc

    set_from : (s t : TypeSet) → Led (set_parts sides s t) → IsSameSet S sides s t
    set_from s t led =
        let all = set_parts_from (same_heads s t) (terms_alike sides s.terms t.terms) (method_pairs s.methods t.methods) led in
        let a = and_parts (same_keys s.methods t.methods) (same_flag s.flag t.flag) all.0 in
        record { methods = methods_from s.methods t.methods a.0 all.2; flag = flag_told s.flag t.flag a.1; terms = all.1 }

    found_from : (r q : Result TypeSet SetFault) → Led (then r (λ s. then q (set_parts sides s))) → IsOkAnd r (λ s. IsOkAnd q (IsSameSet S sides s))
    found_from (Ok s) (Ok t) led = set_from s t led
    found_from (Ok s) (Err fault) led = absurd led
    found_from (Err fault) q led = absurd led

    by_sets_from : (x y : Tree) → Led (by_sets sides (pair x y)) → SameSets S sides x y
    by_sets_from x y led = found_from (set_in sides.left x) (set_in sides.right y) led

    pub leads_from : (x y : Tree) → Led (steps sides (pair x y)) → Cases S sides x y
    leads_from (predeclared x) (predeclared y) led =
        exact_basic (aliased x) (aliased y) (parts_from (pair (predeclared x) (predeclared y)) (same_basic (aliased x) (aliased y)) [] led).0
    leads_from (predeclared x) (interface home embedded own) led =
        let all = sets_from (pair (predeclared x) (interface home embedded own)) (same_basic Any x) led in
        (sym (exact_basic Any x all.0), by_sets_from (predeclared x) (interface home embedded own) all.1)
    leads_from (interface home embedded own) (predeclared y) led =
        let all = sets_from (pair (interface home embedded own) (predeclared y)) (same_basic Any y) led in
        (sym (exact_basic Any y all.0), by_sets_from (interface home embedded own) (predeclared y) all.1)
    leads_from (interface home embedded own) (interface home' embedded' own') led = by_sets_from (interface home embedded own) (interface home' embedded' own') led
    leads_from (union xs) (union ys) led = by_sets_from (union xs) (union ys) led
    leads_from (named p) (named q) led = exact_qname p q (parts_from (pair (named p) (named q)) (same_name p q) [] led).0
    leads_from (parameter p) (parameter q) led = exact_qname p q (parts_from (pair (parameter p) (parameter q)) (same_name p q) [] led).0
    leads_from (pointer x) (pointer y) led = step x y led.0
    leads_from (slice x) (slice y) led = step x y led.0
    leads_from (array n x) (array m y) led =
        let all = parts_from (pair (array n x) (array m y)) (nat_eq n m) (pair x y ∷ []) led in
        (eqb-true n m all.0, step x y all.1.0)
    leads_from (chan d x) (chan c y) led =
        let all = parts_from (pair (chan d x) (chan c y)) (same_dir d c) (pair x y ∷ []) led in
        (dir_told d c all.0, step x y all.1.0)
    leads_from (map_type k x) (map_type l y) led = (step k l led.0, step x y led.1.0)
    leads_from (func home ins outs flag) (func home' ins' outs' flag') led =
        let x : SigOf Pos Text Tree = record { params = param_list ins; results = param_list outs; variadic = flag } in
        let y : SigOf Pos Text Tree = record { params = param_list ins'; results = param_list outs'; variadic = flag' } in
        let all = parts_from (pair (func home ins outs flag) (func home' ins' outs' flag')) (same_form x y) (sig_pairs defined_name pair x y) led in
        sig_from x y all.0 all.1
    leads_from (struct home xs) (struct other ys) led =
        let all = parts_from (pair (struct home xs) (struct other ys)) (same_fields home other (field_list xs) (field_list ys))
        (in_step defined_name pair (field_parts (field_list xs)) (field_parts (field_list ys))) led in
        fields_from home other (field_list xs) (field_list ys) all.0 all.1
    leads_from (instance base xs) (instance other ys) led =
        let all = parts_from (pair (instance base xs) (instance other ys)) (same_generic (defined_name base) (defined_name other) && same_length (type_list xs) (type_list ys))
        (in_step defined_name pair (type_list xs) (type_list ys)) led in
        let a = and_parts (same_generic (defined_name base) (defined_name other)) (same_length (type_list xs) (type_list ys)) all.0 in
        (same_base_from base other a.0, types_from (type_list xs) (type_list ys) (eqb-true (length (type_list xs)) (length (type_list ys)) a.1) all.1)
    leads_from _ _ led = absurd led
