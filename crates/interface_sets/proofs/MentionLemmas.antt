-- An alias that is replaced by its right side leaves no alias that mentions itself, where there was none.
use Rattle.std.proofs.Common.{◌≡◌, ℕ, ◌+◌, ◌≤◌, zero, suc, Bool, true, false, cond, List, [], ◌∷◌, ◌++◌, ◌==◌, length, length-append, Option, Some, None, Ok, Err, refl, ap, sym, subst, ◌∙◌, inl, inr, arith}
use Rattle.std.specs.Prelude.{Result}
use Rattle.std.specs.List.{Contains, AllByRecursion, list_any}
use Rattle.go_values.specs.declared.qualified.QName.{QName}
use Rattle.environments.specs.declared.mentions.Reference.{Reference}
use Rattle.environments.specs.References.{tree_references, base_references, types_references, params_references, fields_references, methods_references, terms_references, argument_count}
use Rattle.type_terms.specs.Declarations.{Decl, renamed_of}
use Rattle.type_terms.specs.Trees.{Tree, predeclared, named, parameter, alias, pointer, slice, array, chan, map_type, func, struct, interface, instance, union}
use Rattle.type_terms.specs.Trees.{Trees, no_types, types, Params, no_params, params, Fields, no_fields, fields, Methods, no_methods, methods, Terms, no_terms, terms, type_list}
use Rattle.type_terms.specs.TreeEquality.{same_name}
use Rattle.replacement.specs.declared.faults.SetFault.{SetFault}
use Rattle.replacement.specs.declared.faults.SetFault.TheVariants.{AliasCycle}
use Rattle.replacement.specs.Expansion.{Entries, Applied, then, known, alias_use, alias_side, alias_right, put_each, wrong_number, parameter_names, led, expanded_from, expanded}
use Rattle.replacement.specs.Substitution.{argument, substituted, replaced, types_replaced, params_replaced, fields_replaced, methods_replaced, terms_replaced}
use Rattle.type_sets.specs.TermTests.{Tested, fine, both, alias_in, mentioned, right_of, each_mention, mentions, no_cycle}
use Rattle.term_tests.specs.Mentions.{declared_right}
use Rattle.term_tests.proofs.ListLemmas.{none_of, cases_of, here_of, later_of, flat_has, flat_from}
use Rattle.term_tests.proofs.FineLemmas.{IsFine, is_fine, more_of, by_each, one_less, all_each, passes}
use Rattle.term_tests.proofs.WalkLemmas.{AreMet, IsKnown, one_more, none_met, room}

pub both_parts : (a b : Tested) → both a b ≡ fine → (a ≡ fine) × (b ≡ fine)
both_parts (Ok u) b is = (refl, is)
both_parts (Err f) b is = absurd cc

all_if : {X : Type 0} (P : X → Type 0) (xs : List X) → ((x : X) → Contains xs x → P x) → AllByRecursion P xs
all_if P [] each = tt
all_if P (x ∷ xs) each = (each x (here_of x xs), all_if P xs (λ y held. each y (later_of x xs y held)))

all_of : {X : Type 0} (P : X → Type 0) (xs : List X) (x : X) → AllByRecursion P xs → Contains xs x → P x
all_of P [] x all held = absurd (none_of x held)
all_of P (y ∷ ys) x all held = elim (cases_of y ys x held) [
  | inl same ↦ subst P (sym same) all.0
  | inr later ↦ all_of P ys x all.1 later
]

-- ---- what a type mentions once parameters are replaced

module _ (P : QName → Type 0) where
  abbrev pub Good : Reference → Type 0
  Good r = (q : QName) → Contains (alias_in r.role r.name) q → P q

  abbrev pub Goods : List Reference → Type 0
  Goods = AllByRecursion Good

  join : (xs ys : List Reference) → Goods xs → Goods ys → Goods (xs ++ ys)
  join [] ys left right = right
  join (x ∷ xs) ys left right = (left.0, join xs ys left.1 right)

  left_of : (xs ys : List Reference) → Goods (xs ++ ys) → Goods xs
  left_of [] ys all = tt
  left_of (x ∷ xs) ys all = (all.0, left_of xs ys all.1)

  right_part : (xs ys : List Reference) → Goods (xs ++ ys) → Goods ys
  right_part [] ys all = all
  right_part (x ∷ xs) ys all = right_part xs ys all.1

  -- a type as the base of an instance
  base_of : (type : Tree) (count : ℕ) → Goods (tree_references type) → Goods (base_references type count)
  base_of (named q) count good = (λ p held. absurd (none_of p held), tt)
  base_of (alias q) count good = (good.0, tt)
  base_of _ count good = tt

  module _ (put : QName → Tree) (puts : (q : QName) → Goods (tree_references (put q))) where
    base_replaced : (base : Tree) (count other : ℕ) → Goods (base_references base count) → Goods (base_references (replaced put base) other)
    base_replaced (parameter q) count other good = base_of (put q) other (puts q)
    base_replaced (named q) count other good = (λ p held. absurd (none_of p held), tt)
    base_replaced (alias q) count other good = (good.0, tt)
    base_replaced (predeclared basic) count other good = tt
    base_replaced (pointer type) count other good = tt
    base_replaced (slice type) count other good = tt
    base_replaced (array size type) count other good = tt
    base_replaced (chan dir type) count other good = tt
    base_replaced (map_type key type) count other good = tt
    base_replaced (func home ins outs variadic) count other good = tt
    base_replaced (struct home inner) count other good = tt
    base_replaced (interface home embedded inner) count other good = tt
    base_replaced (instance base args) count other good = tt
    base_replaced (union inner) count other good = tt

    mutual
      pub tree_replaced : (type : Tree) → Goods (tree_references type) → Goods (tree_references (replaced put type))
      tree_replaced (parameter q) good = puts q
      tree_replaced (predeclared basic) good = good
      tree_replaced (named q) good = good
      tree_replaced (alias q) good = good
      tree_replaced (pointer type) good = tree_replaced type good
      tree_replaced (slice type) good = tree_replaced type good
      tree_replaced (array size type) good = tree_replaced type good
      tree_replaced (chan dir type) good = tree_replaced type good
      tree_replaced (map_type key type) good =
          join (tree_references (replaced put key)) (tree_references (replaced put type))
          (tree_replaced key (left_of (tree_references key) (tree_references type) good))
          (tree_replaced type (right_part (tree_references key) (tree_references type) good))
      tree_replaced (func home ins outs variadic) good =
          join (params_references (params_replaced put ins)) (params_references (params_replaced put outs))
          (params_good ins (left_of (params_references ins) (params_references outs) good))
          (params_good outs (right_part (params_references ins) (params_references outs) good))
      tree_replaced (struct home inner) good = fields_good inner good
      tree_replaced (interface home embedded inner) good =
          join (types_references (types_replaced put embedded)) (methods_references (methods_replaced put inner))
          (types_good embedded (left_of (types_references embedded) (methods_references inner) good))
          (methods_good inner (right_part (types_references embedded) (methods_references inner) good))
      tree_replaced (instance base args) good =
          join (types_references (types_replaced put args)) (base_references (replaced put base) (argument_count (types_replaced put args)))
          (types_good args (left_of (types_references args) (base_references base (argument_count args)) good))
          (base_replaced base (argument_count args) (argument_count (types_replaced put args)) (right_part (types_references args) (base_references base (argument_count args)) good))
      tree_replaced (union inner) good = terms_good inner good

      types_good : (xs : Trees) → Goods (types_references xs) → Goods (types_references (types_replaced put xs))
      types_good no_types good = tt
      types_good (types type rest) good =
          join (tree_references (replaced put type)) (types_references (types_replaced put rest))
          (tree_replaced type (left_of (tree_references type) (types_references rest) good)) (types_good rest (right_part (tree_references type) (types_references rest) good))

      params_good : (xs : Params) → Goods (params_references xs) → Goods (params_references (params_replaced put xs))
      params_good no_params good = tt
      params_good (params pos name type rest) good =
          join (tree_references (replaced put type)) (params_references (params_replaced put rest))
          (tree_replaced type (left_of (tree_references type) (params_references rest) good)) (params_good rest (right_part (tree_references type) (params_references rest) good))

      fields_good : (xs : Fields) → Goods (fields_references xs) → Goods (fields_references (fields_replaced put xs))
      fields_good no_fields good = tt
      fields_good (fields origin pos name type embedded tag rest) good =
          join (tree_references (replaced put type)) (fields_references (fields_replaced put rest))
          (tree_replaced type (left_of (tree_references type) (fields_references rest) good)) (fields_good rest (right_part (tree_references type) (fields_references rest) good))

      methods_good : (xs : Methods) → Goods (methods_references xs) → Goods (methods_references (methods_replaced put xs))
      methods_good no_methods good = tt
      methods_good (methods origin pos name ins outs variadic rest) good =
          let both_are = left_of (params_references ins ++ params_references outs) (methods_references rest) good in
          join (params_references (params_replaced put ins) ++ params_references (params_replaced put outs)) (methods_references (methods_replaced put rest))
          (join (params_references (params_replaced put ins)) (params_references (params_replaced put outs))
          (params_good ins (left_of (params_references ins) (params_references outs) both_are)) (params_good outs (right_part (params_references ins) (params_references outs) both_are)))
          (methods_good rest (right_part (params_references ins ++ params_references outs) (methods_references rest) good))

      terms_good : (xs : Terms) → Goods (terms_references xs) → Goods (terms_references (terms_replaced put xs))
      terms_good no_terms good = tt
      terms_good (terms tilde type rest) good =
          join (tree_references (replaced put type)) (terms_references (terms_replaced put rest))
          (tree_replaced type (left_of (tree_references type) (terms_references rest) good)) (terms_good rest (right_part (tree_references type) (terms_references rest) good))

  abbrev GoodType : Tree → Type 0
  GoodType type = Goods (tree_references type)

  -- what is put for a parameter
  argument_good : (ps : List QName) (args : List Tree) → AllByRecursion GoodType args → (q : QName) → GoodType (argument ps args q)
  argument_good [] args all q = (λ p held. absurd (none_of p held), tt)
  argument_good (p ∷ ps) [] all q = (λ other held. absurd (none_of other held), tt)
  argument_good (p ∷ ps) (arg ∷ args) all q = by (argument_good ps args all.1 q) (same_name q p)
    where
      by : GoodType (argument ps args q) → (b : Bool) → GoodType (cond b arg (argument ps args q))
      by later true = all.0
      by later false = later

  listed_good : (args : Trees) → Goods (types_references args) → AllByRecursion GoodType (type_list args)
  listed_good no_types good = tt
  listed_good (types type rest) good =
      (left_of (tree_references type) (types_references rest) good, listed_good rest (right_part (tree_references type) (types_references rest) good))

  -- a right side with its arguments
  put_good : (head : Applied) (tparams args : List Tree) (right new : Tree) → put_each head tparams args right ≡ Ok new → AllByRecursion GoodType args → GoodType right → GoodType new
  put_good head [] [] right new is all good = let same : right ≡ new = cc in subst GoodType same good
  put_good head [] (arg ∷ args) right new is all good = absurd cc
  put_good head (t ∷ ts) [] right new is all good = absurd cc
  put_good head (t ∷ ts) (arg ∷ args) right new is all good = by (length ts == length args) is
    where
      by : (b : Bool) → cond {A = Result Tree SetFault} b (Ok (substituted (parameter_names (t ∷ ts)) (arg ∷ args) right)) (Err (wrong_number head (t ∷ ts))) ≡ Ok new → GoodType new
      by true e =
          let same : substituted (parameter_names (t ∷ ts)) (arg ∷ args) right ≡ new = cc in
          subst GoodType same (tree_replaced (argument (parameter_names (t ∷ ts)) (arg ∷ args)) (argument_good (parameter_names (t ∷ ts)) (arg ∷ args) all) right good)
      by false e = absurd cc

  -- the alias at a head, and its arguments
  pub record GoodHead (head : Applied) : Type 0 where
    pub name : P head.name
    pub args : AllByRecursion GoodType head.args

  head_good : (type : Tree) (head : Applied) → alias_use type ≡ Some head → GoodType type → GoodHead head
  head_good (alias q) head is good =
      let same : record { name = q; args = [] } ≡ head = cc in
      subst GoodHead same (record { name = good.0 q (here_of q []); args = tt })
  head_good (instance (alias q) args) head is good =
      let same : record { name = q; args = type_list args } ≡ head = cc in
      let base = right_part (types_references args) (base_references (alias q) (argument_count args)) good in
      subst GoodHead same (record { name = base.0 q (here_of q []); args = listed_good args (left_of (types_references args) (base_references (alias q) (argument_count args)) good) })
  head_good _ head is good = absurd cc

module _ (entries : Entries) where
  abbrev FineType : Tree → Type 0
  FineType type = Goods (IsFine entries) (tree_references type)

  -- all that a type mentions is fine, by its mentions and by its references
  fine_type : (type : Tree) → ((q : QName) → Contains (mentioned type) q → IsFine entries q) → FineType type
  fine_type type each = all_if (Good (IsFine entries)) (tree_references type)
      (λ r held q is. each q (flat_has (λ (x : Reference). alias_in x.role x.name) (tree_references type) r q held is))

  mention_fine : (type : Tree) → FineType type → (q : QName) → Contains (mentioned type) q → IsFine entries q
  mention_fine type all q held =
      let from = flat_from (λ (x : Reference). alias_in x.role x.name) (tree_references type) q held in
      all_of (Good (IsFine entries)) (tree_references type) from.0 all from.1 q from.2

  side_fine : (q : QName) → IsFine entries q → (right : Tree) → declared_right entries q ≡ Ok right → FineType right
  side_fine _ (is_fine q own is each) right other =
      let both_are : Ok own ≡ Ok right = sym is ∙ other in
      let same : own ≡ right = cc in
      subst FineType same (fine_type own each)

  right_fine : (head : Applied) (new : Tree) → alias_right entries head ≡ Ok new → GoodHead (IsFine entries) head → FineType new
  right_fine head new is good = by (known (entries head.name) head.name) refl is
    where
      by : (r : Result Decl SetFault) → known (entries head.name) head.name ≡ r → then r (alias_side head) ≡ Ok new → FineType new
      by (Ok (renamed_of pos tparams right)) e h =
          put_good (IsFine entries) head tparams head.args right new h good.args
          (side_fine head.name good.name right (ap (λ r. then r (right_of head.name)) e))
      by (Ok _) e h = absurd cc
      by (Err f) e h = absurd cc

  led_fine : (more : List QName → Tree → Result Tree SetFault) (met : List QName) (type found : Tree)
      → ((now : List QName) (right : Tree) → more now right ≡ Ok found → FineType right → FineType found)
      → (o : Option Applied) → alias_use type ≡ o → led entries more met type o ≡ Ok found → FineType type → FineType found
  led_fine more met type found later None none is good = let same : type ≡ found = cc in subst FineType same good
  led_fine more met type found later (Some head) some is good = by (list_any (same_name head.name) met) (alias_right entries head) refl is
    where
      by : (b : Bool) (r : Result Tree SetFault) → alias_right entries head ≡ r
          → cond {A = Result Tree SetFault} b (Err (AliasCycle head.name)) (then r (more (met ++ head.name ∷ []))) ≡ Ok found → FineType found
      by true r e h = absurd cc
      by false (Err f) e h = absurd cc
      by false (Ok right) e h = later (met ++ head.name ∷ []) right h (right_fine head right e (head_good (IsFine entries) type head some good))

  expanded_fine : (n : ℕ) (met : List QName) (type found : Tree) → expanded_from entries n met type ≡ Ok found → FineType type → FineType found
  unfolding expanded_from
  expanded_fine zero met type found is good =
      led_fine (λ _ t. Ok t) met type found (λ now right e fine_right. let same : right ≡ found = cc in subst FineType same fine_right) (alias_use type) refl is good
  expanded_fine (suc n) met type found is good =
      led_fine (expanded_from entries n) met type found (λ now right e fine_right. expanded_fine n now right found e fine_right) (alias_use type) refl is good

  -- ---- the test of mentions

  -- an alias among some that passed
  pub record Passed (more : List QName → List QName → Tested) (way : List QName) (q : QName) : Type 0 where
    pub new : list_any (same_name q) way ≡ false
    pub right : Tree
    pub is : declared_right entries q ≡ Ok right
    pub inside : more (way ++ q ∷ []) (mentioned right) ≡ fine

  one_passed : (more : List QName → List QName → Tested) (way : List QName) (q : QName) (b : Bool) → list_any (same_name q) way ≡ b → (r : Result Tree SetFault) → declared_right entries q ≡ r
      → cond {A = Tested} b (Err (AliasCycle q)) (then r (λ right. more (way ++ q ∷ []) (mentioned right))) ≡ fine → Passed more way q
  one_passed more way q true e r f is = absurd cc
  one_passed more way q false e (Err fault) f is = absurd cc
  one_passed more way q false e (Ok right) f is = record { new = e; right = right; is = f; inside = is }

  each_passed : (more : List QName → List QName → Tested) (way qs : List QName) → each_mention entries more way qs ≡ fine → (q : QName) → Contains qs q → Passed more way q
  each_passed more way [] is q held = absurd (none_of q held)
  each_passed more way (p ∷ ps) is q held =
      let parts = both_parts _ (each_mention entries more way ps) is in
      elim (cases_of p ps q held) [
        | inl same ↦ subst (Passed more way) (sym same) (one_passed more way p (list_any (same_name p) way) refl (declared_right entries p) refl parts.0)
        | inr later ↦ each_passed more way ps parts.1 q later
      ]

  module _ (names : List QName) (declared : IsKnown entries names) where
    -- Where so many aliases may be met as there are names, each that passed is fine.
    all_fine : (n : ℕ) (way qs : List QName) → AreMet names way → length names ≤ n + length way → mentions entries n way qs ≡ fine → (q : QName) → Contains qs q → IsFine entries q
    all_fine zero way qs was enough is q held =
        let part = each_passed (more_of entries zero) way qs (sym (by_each entries zero way qs) ∙ is) q held in
        let longer = room names (way ++ q ∷ []) (one_more names way q was part.new (declared q part.right part.is)) in
        absurd (omega (arith, enough, longer, length-append way (q ∷ [])))
    all_fine (suc n) way qs was enough is q held =
        let part = each_passed (more_of entries (suc n)) way qs (sym (by_each entries (suc n) way qs) ∙ is) q held in
        let met = one_more names way q was part.new (declared q part.right part.is) in
        is_fine q part.right part.is (λ p inside.
        all_fine n (way ++ q ∷ []) (mentioned part.right) met (omega (arith, enough, length-append way (q ∷ []))) (sym (one_less entries n (way ++ q ∷ []) (mentioned part.right)) ∙ part.inside) p inside)

    no_cycle_fine : (type : Tree) → no_cycle entries names type ≡ fine → FineType type
    no_cycle_fine type is = fine_type type (all_fine (length names) [] (mentioned type) (none_met names) (omega arith) is)

    fine_no_cycle : (type : Tree) → FineType type → no_cycle entries names type ≡ fine
    fine_no_cycle type all =
        let n = length names in
        by_each entries n [] (mentioned type)
        ∙ all_each entries (more_of entries n) [] (mentioned type) (λ q held.
        sym (by_each entries n [] (q ∷ [])) ∙ passes entries q (mention_fine type all q held) n [] (λ w none. absurd (none_of w none)))

    -- The heart: a type in which no alias mentions itself has none once its head is expanded.
    pub no_cycle_expanded : (type found : Tree) → expanded entries names type ≡ Ok found → no_cycle entries names type ≡ fine → no_cycle entries names found ≡ fine
    no_cycle_expanded type found is test = fine_no_cycle found (expanded_fine (length names) [] type found is (no_cycle_fine type test))
