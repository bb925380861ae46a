-- Identity of a type with itself.
use Rattle.std.proofs.Common.{◌≡◌, inr, ℕ, zero, suc, List, [], ◌∷◌, map, length, ◌&&◌, nat_eq, Bool, true, false, cond, Some, None, Result, Ok, Err, refl}
use Rattle.std.specs.Prelude.{IsOkAnd}
use Rattle.std.specs.List.{AllByRecursion}
use Rattle.std.proofs.lemmas.Bool.{or_right}
use Rattle.std.proofs.lemmas.Cmp.{nat_list_eq_equiv, nat_eq_equiv}
use Rattle.go_values.specs.declared.positions.Pos.{Pos}
use Rattle.go_values.specs.contracts.qualified.QNameEq.TheImpl.Laws as qname_laws
use Rattle.type_terms.specs.declared.literals.Dir.{Dir}
use Rattle.type_terms.specs.declared.literals.Dir.TheVariants.{Receive, Send, Both}
use Rattle.type_terms.specs.Names.{defined_name}
use Rattle.type_terms.specs.Replaced.{all_left, all_right}
use Rattle.type_terms.specs.Shapes.{SigOf, FieldOf}
use Rattle.type_terms.specs.Trees.{Text, Tree, predeclared, named, parameter, pointer, slice, array, chan, map_type, func, struct, interface, instance, union, type_list, param_list, field_list}
use Rattle.type_terms.specs.TreeEquality.{same_text, same_flag, same_dir, same_name}
use Rattle.environments.specs.Exported.{exported}
use Rattle.replacement.specs.declared.faults.SetFault.{SetFault}
use Rattle.replacement.specs.Expansion.{then}
use Rattle.type_sets.specs.Interfaces.{SetMethod}
use Rattle.type_sets.specs.Covering.{Answer, same_length}
use Rattle.type_sets.specs.TypeSets.{TypeSet}
use Rattle.type_alike.specs.Sides.{Side, Sides, Pair, pair, expanded_in}
use Rattle.type_alike.specs.Demands.{parts_where, param_parts, field_parts, same_fields, same_form, in_step, sig_pairs}
use Rattle.type_alike.specs.Sets.{signature, same_keys, method_pairs, terms_alike, same_heads, set_parts, set_in, by_sets}
use Rattle.type_alike.specs.Identity.{InStep, IsSameSig, IsSameField, IsSameMethod, IsSameSet, SameSets, Cases, Id}
use Rattle.type_alike.specs.Comparing.{answered, steps}
use Rattle.identity_laws.specs.Equivalence.{between, WhereTold, IsTold, CoversItself, IsHead, IsSound}

text_itself : (x : Text) → same_text x x ≡ true
text_itself x = nat_list_eq_equiv.refl x

flag_itself : (x : Bool) → same_flag x x ≡ true
flag_itself true = refl
flag_itself false = refl

dir_itself : (x : Dir) → same_dir x x ≡ true
dir_itself Receive = refl
dir_itself Send = refl
dir_itself Both = refl

length_itself : {X : Type 0} (xs : List X) → same_length xs xs ≡ true
length_itself xs = nat_eq_equiv.refl (length xs)

fields_itself : (home : Text) (xs : List (FieldOf Pos Text Text Tree)) → same_fields home home xs xs ≡ true
fields_itself home [] = refl
fields_itself home (x ∷ xs) = λ i. (text_itself x.name i && (flag_itself x.embedded i && (text_itself x.tag i
    && or_right (exported x.name) (same_text home home) (text_itself home) i))) && fields_itself home xs i

form_itself : (x : SigOf Pos Text Tree) → same_form x x ≡ true
form_itself x = λ i. flag_itself x.variadic i && (length_itself x.params i && length_itself x.results i)

keys_itself : (xs : List SetMethod) → same_keys xs xs ≡ true
keys_itself [] = refl
keys_itself (x ∷ xs) = λ i. (text_itself x.name i && text_itself x.home i) && keys_itself xs i

heads_itself : (s : TypeSet) → same_heads s s ≡ true
heads_itself s = λ i. keys_itself s.methods i && flag_itself s.flag i

module _ (side : Side) (covers : CoversItself side) (S : Tree → Tree → Type 0) (T : Pair → Type 0)
    (step : (a : Tree) → T (pair a a) → S a a) where
  abbrev sides : Sides
  sides = between side side

  parts_told : (x : Pair) (b : Bool) (ps : List Pair) → b ≡ true → WhereTold T (answered sides x (parts_where b ps)) → AllByRecursion T ps
  parts_told x true ps e told = told
  parts_told x false ps e told = absurd cc

  listed_itself : {X : Type 0} (type : X → Tree) (xs : List X) → AllByRecursion T (in_step defined_name pair (map type xs) (map type xs))
      → InStep (λ x y. S (type x) (type y)) xs xs
  listed_itself type [] all = tt
  listed_itself type (x ∷ xs) all = (step (type x) all.0, listed_itself type xs all.1)

  types_itself : (xs : List Tree) → AllByRecursion T (in_step defined_name pair xs xs) → InStep S xs xs
  types_itself [] all = tt
  types_itself (x ∷ xs) all = (step x all.0, types_itself xs all.1)

  sig_itself : (x : SigOf Pos Text Tree) → AllByRecursion T (sig_pairs defined_name pair x x) → IsSameSig S x x
  sig_itself x all =
      let ins = in_step defined_name pair (param_parts x.params) (param_parts x.params) in
      let outs = in_step defined_name pair (param_parts x.results) (param_parts x.results) in
      record {
        params = listed_itself (λ p. p.type) x.params (all_left T ins outs all);
        results = listed_itself (λ p. p.type) x.results (all_right T ins outs all);
        variadic = refl;
      }

  same_fields_itself : (home : Text) (xs : List (FieldOf Pos Text Text Tree)) → AllByRecursion T (in_step defined_name pair (field_parts xs) (field_parts xs))
      → InStep (IsSameField S home home) xs xs
  same_fields_itself home [] all = tt
  same_fields_itself home (x ∷ xs) all = (
    record { name = refl; embedded = refl; tag = refl; homes = inr refl; type = step x.type all.0 },
    same_fields_itself home xs all.1,
  )

  methods_itself : (xs : List SetMethod) → AllByRecursion T (method_pairs xs xs) → InStep (IsSameMethod S) xs xs
  methods_itself [] all = tt
  methods_itself (x ∷ xs) all = (record { name = refl; home = refl; sig = step (signature x.sig) all.0 }, methods_itself xs all.1)

  set_told : (b : Bool) (answer : Answer) (ps : List Pair) → b ≡ true → (IsTold answer → answer ≡ Ok true)
      → WhereTold T (cond b (then answer (λ alike. Ok (cond alike (Some ps) None))) (Ok None))
      → (answer ≡ Ok true) × AllByRecursion T ps
  set_told true (Ok true) ps e is told = (refl, told)
  set_told true (Ok false) ps e is told = let no = is tt in absurd cc
  set_told true (Err fault) ps e is told = absurd told
  set_told false answer ps e is told = absurd cc

  set_itself : (x : Tree) (s : TypeSet) → set_in side x ≡ Ok s → WhereTold T (set_parts sides s s) → IsSameSet S sides s s
  set_itself x s e told =
      let all = set_told (same_heads s s) (terms_alike sides s.terms s.terms) (method_pairs s.methods s.methods) (heads_itself s) (covers x s e) told in
      record { methods = methods_itself s.methods all.1; flag = refl; terms = all.0 }

  found_itself : (x : Tree) (f : Result TypeSet SetFault) → set_in side x ≡ f → WhereTold T (then f (λ s. then f (set_parts sides s)))
      → IsOkAnd f (λ s. IsOkAnd f (IsSameSet S sides s))
  found_itself x (Ok s) e told = set_itself x s e told
  found_itself x (Err fault) e told = absurd told

  sets_itself : (x : Tree) → WhereTold T (by_sets sides (pair x x)) → SameSets S sides x x
  sets_itself x told = found_itself x (set_in side x) refl told

  cases_itself : (x : Tree) → IsHead x → WhereTold T (steps sides (pair x x)) → Cases S sides x x
  cases_itself (predeclared x) head told = refl
  cases_itself (interface home embedded own) head told = sets_itself (interface home embedded own) told
  cases_itself (union xs) head told = sets_itself (union xs) told
  cases_itself (named p) head told = refl
  cases_itself (parameter p) head told = refl
  cases_itself (pointer x) head told = step x told.0
  cases_itself (slice x) head told = step x told.0
  cases_itself (array n x) head told =
      (refl, step x (parts_told (pair (array n x) (array n x)) (nat_eq n n) (pair x x ∷ []) (nat_eq_equiv.refl n) told).0)
  cases_itself (chan d x) head told =
      (refl, step x (parts_told (pair (chan d x) (chan d x)) (same_dir d d) (pair x x ∷ []) (dir_itself d) told).0)
  cases_itself (map_type k x) head told = (step k told.0, step x told.1.0)
  cases_itself (func home ins outs flag) head told =
      let x : SigOf Pos Text Tree = record { params = param_list ins; results = param_list outs; variadic = flag } in
      sig_itself x (parts_told (pair (func home ins outs flag) (func home ins outs flag)) (same_form x x) (sig_pairs defined_name pair x x) (form_itself x) told)
  cases_itself (struct home xs) head told =
      same_fields_itself home (field_list xs) (parts_told (pair (struct home xs) (struct home xs)) (same_fields home home (field_list xs) (field_list xs))
      (in_step defined_name pair (field_parts (field_list xs)) (field_parts (field_list xs))) (fields_itself home (field_list xs)) told)
  cases_itself (instance (named q) xs) head told =
      let same : (same_name q q && same_length (type_list xs) (type_list xs)) ≡ true = λ i. qname_laws.laws-law.refl q i && length_itself (type_list xs) i in (
        refl,
        types_itself (type_list xs) (parts_told (pair (instance (named q) xs) (instance (named q) xs)) (same_name q q && same_length (type_list xs) (type_list xs))
            (in_step defined_name pair (type_list xs) (type_list xs)) same told),
      )
  cases_itself _ head told = absurd head

ends_itself : (side : Side) → CoversItself side → (n : ℕ)
    → ((a : Tree) → IsSound (between side side) n (pair a a) → Id (between side side) n a a)
    → (f : Result Tree SetFault)
    → IsOkAnd (then f (λ x. then f (λ y. Ok (pair x y)))) (λ q. IsHead q.left × WhereTold (IsSound (between side side) n) (steps (between side side) q))
    → IsOkAnd f (λ x. IsOkAnd f (Cases (Id (between side side) n) (between side side) x))
ends_itself side covers n each (Ok x) told =
    cases_itself side covers (Id (between side side) n) (IsSound (between side side) n) each x told.0 told.1
ends_itself side covers n each (Err fault) told = absurd told

pub id_itself : (side : Side) → CoversItself side → (n : ℕ) (a : Tree) → IsSound (between side side) n (pair a a)
    → Id (between side side) n a a
id_itself side covers zero a sound = tt
id_itself side covers (suc n) a sound = ends_itself side covers n (id_itself side covers n) (expanded_in side a) sound
