-- Types that are what they are expanded to, down to an end.
use Rattle.std.proofs.Common.{◌≡◌, inl, inr, ℕ, zero, suc, ◌≤◌, Bool, true, false, cond, List, [], ◌∷◌, ◌++◌, ◌==◌, map, length, Option, Some, None, Ok, Err, refl, ap, sym, subst, ◌∙◌, arith}
use Rattle.std.specs.Prelude.{Result}
use Rattle.std.specs.List.{AllByRecursion, Contains}
use Rattle.go_values.specs.declared.qualified.QName.{QName}
use Rattle.go_values.specs.declared.positions.Pos.{Pos}
use Rattle.environments.specs.Environments.{Entry, declared, damaged}
use Rattle.type_terms.specs.Declarations.{Decl, renamed_of}
use Rattle.type_terms.specs.DeclarationRules.{IsProperDecl, IsTypeParameter}
use Rattle.type_terms.specs.Trees.{Tree, predeclared, named, parameter, alias, pointer, slice, array, chan, map_type, func, struct, interface, instance, union}
use Rattle.type_terms.specs.Trees.{Trees, no_types, types, Params, no_params, params, Fields, no_fields, fields, Terms, no_terms, terms, type_list, param_list, field_list, term_list}
use Rattle.type_terms.specs.TreeEquality.{same_name}
use Rattle.replacement.specs.declared.faults.SetFault.{SetFault}
use Rattle.replacement.specs.Expansion.{Entries, Applied, then, known, alias_use, alias_side, alias_right, put_each, parameter_names, wrong_number}
use Rattle.replacement.specs.Substitution.{argument, substituted, replaced, types_replaced, params_replaced, fields_replaced, terms_replaced}
use Rattle.type_sets.specs.Covering.{Test, itself, types_alike, alias_alike}
use Rattle.type_sets.specs.TermTests.{right_of}
use Rattle.term_tests.specs.Mentions.{declared_right}
use Rattle.term_tests.proofs.ListLemmas.{none_of, cases_of}
use Rattle.covering_aliases.specs.SoundTypes.{IsSoundBase, IsSound, AreSound, AreSoundParams, AreSoundFields, AreSoundTerms, Ends}
use Rattle.covering_aliases.specs.Covered.{is_at, is_given}
use Rattle.covering_aliases.proofs.ReplacedLemmas.{type_stays}
use Rattle.covering_aliases.proofs.AliasLemmas.{alias_is}

all_of : {X : Type 0} (P : X → Type 0) (xs : List X) (x : X) → AllByRecursion P xs → Contains xs x → P x
all_of P [] x all held = absurd (none_of x held)
all_of P (y ∷ ys) x all held = elim (cases_of y ys x held) [
  | inl same ↦ subst P (sym same) all.0
  | inr later ↦ all_of P ys x all.1 later
]

all_append : {X : Type 0} (P : X → Type 0) (xs ys : List X) → AllByRecursion P xs → AllByRecursion P ys → AllByRecursion P (xs ++ ys)
all_append P [] ys left right = right
all_append P (x ∷ xs) ys left right = (left.0, all_append P xs ys left.1 right)

-- the types that are compared in a type that isn't an interface
abbrev pub compared : Tree → List Tree
compared (pointer type) = type ∷ []
compared (slice type) = type ∷ []
compared (array size type) = type ∷ []
compared (chan dir type) = type ∷ []
compared (map_type key type) = key ∷ type ∷ []
compared (func home ins outs variadic) = map (λ x. x.type) (param_list ins) ++ map (λ x. x.type) (param_list outs)
compared (struct home inner) = map (λ x. x.type) (field_list inner)
compared (instance base args) = type_list args
compared (union inner) = map (λ x. x.type) (term_list inner)
compared _ = []

-- instances are of defined types
abbrev pub IsPlain : Tree → Type 0
IsPlain (instance (named q) args) = Unit {0}
IsPlain (instance base args) = ⊥
IsPlain _ = Unit {0}

module _ (entries : Entries) where
  -- from the name of one alias at a head to that of the next
  pub record Leads (from to : QName) : Type 0 where
    pub head : Applied
    pub right : Tree
    pub next : Applied
    pub is : head.name ≡ from
    pub right_is : alias_right entries head ≡ Ok right
    pub heads_at : alias_use right ≡ Some next
    pub at : next.name ≡ to

  pub data HeadEnds : QName → Type 0 where
    head_ends : (q : QName) → ((to : QName) → Leads q to → HeadEnds to) → HeadEnds q

  -- it ends where at most m right sides stand in one another
  pub record EndsBy (m : ℕ) (q : QName) : Type 0 where
    pub most : ℕ
    pub less : most ≤ m
    pub ends : Ends entries most q

module _ (settle : Tree → Result Tree SetFault) (free : Test) (entries : Entries) (m : ℕ) where
  abbrev is_type : Tree → Test
  is_type = is_at settle free entries (suc m)

  pub data Good : Tree → Type 0 where
    good : (type : Tree)
        → ((head : Applied) → alias_use type ≡ Some head → is_type type ≡ is_given settle free entries (suc m) (alias_right entries head))
        → ((head : Applied) → alias_use type ≡ Some head → EndsBy entries m head.name)
        → ((head : Applied) (right : Tree) → alias_use type ≡ Some head → alias_right entries head ≡ Ok right → Good right)
        → (alias_use type ≡ None → IsPlain type)
        → ((part : Tree) → alias_use type ≡ None → Contains (compared type) part → Good part) → Good type

  leaf : (type : Tree) → alias_use type ≡ None → IsPlain type → AllByRecursion Good (compared type) → Good type
  leaf type none plain all = good type
      (λ head heads_at. absurd (let e : None ≡ Some head = sym none ∙ heads_at in cc))
      (λ head heads_at. absurd (let e : None ≡ Some head = sym none ∙ heads_at in cc))
      (λ head right heads_at is. absurd (let e : None ≡ Some head = sym none ∙ heads_at in cc))
      (λ e. plain)
      (λ part e held. all_of Good (compared type) part all held)

  -- an alias with its arguments
  record GoodUse (head : Applied) : Type 0 where
    same : alias_alike settle free entries (suc m) head.name (map is_type head.args) ≡ is_given settle free entries (suc m) (alias_right entries head)
    ends : EndsBy entries m head.name
    right : (right : Tree) → alias_right entries head ≡ Ok right → Good right

  used : (type : Tree) (head : Applied) → alias_use type ≡ Some head
      → is_type type ≡ alias_alike settle free entries (suc m) head.name (map is_type head.args) → GoodUse head → Good type
  used type head heads_at same g = good type
      (λ other use_too. same ∙ g.same ∙ ap (λ h. is_given settle free entries (suc m) (alias_right entries h)) (one other use_too))
      (λ other use_too. subst (λ h. EndsBy entries m h.name) (one other use_too) g.ends)
      (λ other right use_too is. g.right right (ap (alias_right entries) (one other use_too) ∙ is))
      (λ none. absurd (let e : None ≡ Some head = sym none ∙ heads_at in cc))
      (λ part none held. absurd (let e : None ≡ Some head = sym none ∙ heads_at in cc))
    where
      one : (other : Applied) → alias_use type ≡ Some other → head ≡ other
      one other use_too = let e : Some head ≡ Some other = sym heads_at ∙ use_too in cc

  tests_are : (xs : Trees) → types_alike settle free (alias_alike settle free entries (suc m)) (itself settle free) xs ≡ map is_type (type_list xs)
  tests_are no_types = refl
  tests_are (types type rest) = ap (λ l. is_type type ∷ l) (tests_are rest)

  -- ---- a type with good types put for its parameters

  module _ (IsOne : QName → Type 0) (opens : (q : QName) → IsOne q → (args : List Tree) → AllByRecursion Good args → GoodUse (record { name = q; args = args }))
      (put : QName → Tree) (puts : (q : QName) → Good (put q)) where
    mutual
      type_good : (type : Tree) → IsSound IsOne type → Good (replaced put type)
      type_good (parameter q) sound = puts q
      type_good (predeclared basic) sound = leaf (predeclared basic) refl tt tt
      type_good (named q) sound = leaf (named q) refl tt tt
      type_good (alias q) sound = used (alias q) (record { name = q; args = [] }) refl refl (opens q sound [] tt)
      type_good (pointer type) sound = leaf (pointer (replaced put type)) refl tt (type_good type sound, tt)
      type_good (slice type) sound = leaf (slice (replaced put type)) refl tt (type_good type sound, tt)
      type_good (array size type) sound = leaf (array size (replaced put type)) refl tt (type_good type sound, tt)
      type_good (chan dir type) sound = leaf (chan dir (replaced put type)) refl tt (type_good type sound, tt)
      type_good (map_type key type) sound = leaf (map_type (replaced put key) (replaced put type)) refl tt (type_good key sound.0, (type_good type sound.1, tt))
      type_good (func home ins outs variadic) sound = leaf (func home (params_replaced put ins) (params_replaced put outs) variadic) refl tt
          (all_append Good (map (λ x. x.type) (param_list (params_replaced put ins))) (map (λ x. x.type) (param_list (params_replaced put outs))) (params_good ins sound.0) (params_good outs sound.1))
      type_good (struct home inner) sound = leaf (struct home (fields_replaced put inner)) refl tt (fields_good inner sound)
      type_good (interface home embedded inner) sound = leaf (replaced put (interface home embedded inner)) refl tt tt
      type_good (instance base args) sound = at_base base sound.0 args (types_good args sound.1)
      type_good (union inner) sound = leaf (union (terms_replaced put inner)) refl tt (terms_good inner sound)

      at_base : (base : Tree) → IsSoundBase IsOne base → (args : Trees) → AllByRecursion Good (type_list (types_replaced put args)) → Good (instance (replaced put base) (types_replaced put args))
      at_base (named q) sound args all = leaf (instance (named q) (types_replaced put args)) refl tt all
      at_base (alias q) sound args all =
          used (instance (alias q) (types_replaced put args)) (record { name = q; args = type_list (types_replaced put args) }) refl
          (ap (alias_alike settle free entries (suc m) q) (tests_are (types_replaced put args))) (opens q sound (type_list (types_replaced put args)) all)
      at_base _ sound args all = absurd sound

      types_good : (xs : Trees) → AreSound IsOne xs → AllByRecursion Good (type_list (types_replaced put xs))
      types_good no_types sound = tt
      types_good (types type rest) sound = (type_good type sound.0, types_good rest sound.1)

      params_good : (xs : Params) → AreSoundParams IsOne xs → AllByRecursion Good (map (λ x. x.type) (param_list (params_replaced put xs)))
      params_good no_params sound = tt
      params_good (params pos name type rest) sound = (type_good type sound.0, params_good rest sound.1)

      fields_good : (xs : Fields) → AreSoundFields IsOne xs → AllByRecursion Good (map (λ x. x.type) (field_list (fields_replaced put xs)))
      fields_good no_fields sound = tt
      fields_good (fields origin pos name type embedded tag rest) sound = (type_good type sound.0, fields_good rest sound.1)

      terms_good : (xs : Terms) → AreSoundTerms IsOne xs → AllByRecursion Good (map (λ x. x.type) (term_list (terms_replaced put xs)))
      terms_good no_terms sound = tt
      terms_good (terms tilde type rest) sound = (type_good type sound.0, terms_good rest sound.1)

  parameter_good : (q : QName) → Good (parameter q)
  parameter_good q = leaf (parameter q) refl tt tt

  argument_good : (ps : List QName) (args : List Tree) → AllByRecursion Good args → (q : QName) → Good (argument ps args q)
  argument_good [] args all q = parameter_good q
  argument_good (p ∷ ps) [] all q = parameter_good q
  argument_good (p ∷ ps) (arg ∷ args) all q = by (same_name q p) (argument_good ps args all.1 q)
    where
      by : (b : Bool) → Good (argument ps args q) → Good (cond b arg (argument ps args q))
      by true later = all.0
      by false later = later

  -- ---- where the alias at a head leads

  module _ (proper : (q : QName) (decl : Decl) → entries q ≡ Some (declared decl) → IsProperDecl decl) where
    -- a right side is given, and it is no type parameter where there are type parameters
    record Given (q : QName) (args : List Tree) (new : Tree) : Type 0 where
      right : Tree
      is : declared_right entries q ≡ Ok right
      names : List QName
      news : new ≡ substituted names args right
      heads : IsTypeParameter right → alias_use new ≡ None

    parameter_use : (type new : Tree) → type ≡ new → IsTypeParameter type → alias_use new ≡ None
    parameter_use (parameter p) new same is = subst (λ t. alias_use t ≡ None) same refl
    parameter_use _ new same is = absurd is

    given_of : (q : QName) (args : List Tree) (new : Tree) → alias_right entries (record { name = q; args = args }) ≡ Ok new → Given q args new
    given_of q args new is = by (entries q) refl args is
      where
        by_count : (pos : Pos) (p : Tree) (ps : List Tree) (own arg : Tree) (args : List Tree) → entries q ≡ Some (declared (renamed_of pos (p ∷ ps) own)) → (b : Bool)
            → cond {A = Result Tree SetFault} b (Ok (substituted (parameter_names (p ∷ ps)) (arg ∷ args) own)) (Err (wrong_number (record { name = q; args = arg ∷ args }) (p ∷ ps))) ≡ Ok new
            → Given q (arg ∷ args) new
        by_count pos p ps own arg args e true h =
            let same : substituted (parameter_names (p ∷ ps)) (arg ∷ args) own ≡ new = cc in
            record {
              right = own;
              is = ap (λ o. then (known o q) (right_of q)) e;
              names = parameter_names (p ∷ ps);
              news = sym same;
              heads = λ is_one. elim ((proper q (renamed_of pos (p ∷ ps) own) e).form.1) [
                | inl none ↦ absurd cc
                | inr never ↦ absurd (never is_one)
              ];
            }
        by_count pos p ps own arg args e false h = absurd cc

        by : (o : Option Entry) → entries q ≡ o → (args : List Tree) → then (known o q) (alias_side (record { name = q; args = args })) ≡ Ok new → Given q args new
        by (Some (declared (renamed_of pos [] own))) e [] h =
            let same : own ≡ new = cc in
            record {
              right = own;
              is = ap (λ o. then (known o q) (right_of q)) e;
              names = [];
              news = sym same ∙ sym (type_stays own);
              heads = parameter_use own new same;
            }
        by (Some (declared (renamed_of pos [] own))) e (arg ∷ args) h = absurd cc
        by (Some (declared (renamed_of pos (p ∷ ps) own))) e [] h = absurd cc
        by (Some (declared (renamed_of pos (p ∷ ps) own))) e (arg ∷ args) h = by_count pos p ps own arg args e (length ps == length args) h
        by (Some (declared _)) e args h = absurd cc
        by (Some (damaged fault read)) e args h = absurd cc
        by None e args h = absurd cc

    head_sound : (IsOne : QName → Type 0) (put : QName → Tree) (type : Tree) → IsSound IsOne type → (IsTypeParameter type → alias_use (replaced put type) ≡ None)
        → (next : Applied) → alias_use (replaced put type) ≡ Some next → IsOne next.name
    head_sound IsOne put (parameter q) sound heads next heads_at = absurd (let e : None ≡ Some next = sym (heads tt) ∙ heads_at in cc)
    head_sound IsOne put (alias q) sound heads next heads_at = let same : record { name = q; args = [] } ≡ next = cc in subst (λ (h : Applied). IsOne h.name) same sound
    head_sound IsOne put (instance (alias q) args) sound heads next heads_at =
        let same : record { name = q; args = type_list (types_replaced put args) } ≡ next = cc in subst (λ (h : Applied). IsOne h.name) same sound.0
    head_sound IsOne put (instance (named q) args) sound heads next heads_at = absurd cc
    head_sound IsOne put (instance _ args) sound heads next heads_at = absurd sound.0
    head_sound IsOne put _ sound heads next heads_at = absurd cc

    -- the alias at the head of a right side ends earlier
    pub next_ends : (n : ℕ) (head : Applied) (new : Tree) (next : Applied) → Ends entries (suc n) head.name → alias_right entries head ≡ Ok new → alias_use new ≡ Some next → Ends entries n next.name
    next_ends n head new next ends is heads_at =
        let g = given_of head.name head.args new is in
        head_sound (Ends entries n) (argument g.names head.args) g.right (ends g.right g.is)
        (λ is_one. subst (λ t. alias_use t ≡ None) g.news (g.heads is_one)) next (subst (λ t. alias_use t ≡ Some next) g.news heads_at)

    pub heads_end : (n : ℕ) (q : QName) → Ends entries n q → HeadEnds entries q
    heads_end zero q ends = absurd ends
    heads_end (suc n) q ends = head_ends q (λ to leads.
        heads_end n to (subst (Ends entries n) leads.at (next_ends n leads.head leads.right leads.next (subst (Ends entries (suc n)) (sym leads.is) ends) leads.right_is leads.heads_at)))

    opens_at : (n : ℕ) → n ≤ m → (q : QName) → Ends entries n q → (args : List Tree) → AllByRecursion Good args → GoodUse (record { name = q; args = args })
    opens_at zero less q ends args all = absurd ends
    opens_at (suc n) less q ends args all =
        let fits : n ≤ m = omega (arith, less) in
        record {
          same = alias_is settle free entries n m q ends fits args;
          ends = record { most = suc n; less = less; ends = ends };
          right = λ new is.
              let g = given_of q args new is in
              subst Good (sym g.news) (type_good (Ends entries n) (opens_at n fits) (argument g.names args) (argument_good g.names args all) g.right (ends g.right g.is));
        }

    pub sound_good : (n : ℕ) → n ≤ m → (type : Tree) → IsSound (Ends entries n) type → Good type
    sound_good n less type sound = subst Good (type_stays type) (type_good (Ends entries n) (opens_at n less) parameter parameter_good type sound)
