-- Pairs of methods of one key, one method after the other.
use Rattle.std.proofs.Common.{◌≡◌, ℕ, Bool, true, false, cond, List, [], ◌∷◌, ◌++◌, ◌&&◌, map, Option, Some, None, refl, ap, sym, subst, ◌∙◌, option_map, append_assoc, length, arith}
use Rattle.std.specs.Prelude.{IfSome}
use Rattle.std.specs.List.{AllByRecursion, flat_map}
use Rattle.std.proofs.lemmas.List.{map-append}
use Rattle.std.proofs.lemmas.Grind.{flat_map-append}
use Rattle.std.proofs.lemmas.Bool.{and_parts}
use Rattle.std.specs.Cmp.Lexicographic.{nat_list_eq_equiv, bytes_decides}
use Rattle.type_terms.specs.declared.descriptors.Node.{Node}
use Rattle.type_terms.specs.declared.literals.Sig.{Sig}
use Rattle.type_terms.specs.Arenas.{AllBelow}
use Rattle.type_terms.specs.NodeShapes.{sig_shape}
use Rattle.type_terms.specs.Shapes.{SigOf, sig_types}
use Rattle.type_terms.specs.Trees.{Text, Tree}
use Rattle.type_terms.specs.TreeEquality.{same_text}
use Rattle.go_values.specs.declared.positions.Pos.{Pos}
use Rattle.type_sets.specs.Interfaces.{SetMethod as Method, same_key}
use Rattle.type_sets.specs.TypeSets.{Pair, first_of_key, paired, pairs_among}
use Rattle.interface_nodes.specs.declared.methods.SetMethod.{SetMethod}
use Rattle.interface_nodes.specs.HeldNodes.{method_meant, method_nodes}
use Rattle.set_methods.specs.declared.keys.MethodKey.{MethodKey}
use Rattle.set_methods.specs.declared.pairs.MethodPair.{MethodPair}
use Rattle.set_methods.specs.Pairs.{sig_meant, pair_meant, pair_nodes, key_of, same, first_or, with_first, paired_with}

-- the pairs that the rest gives, where these are the first signatures of their keys
abbrev pub pairs_from : (MethodKey → Option Sig) → List SetMethod → List MethodPair
pairs_from first [] = []
pairs_from first (x ∷ rest) = paired_with x.sig (first (key_of x)) ++ pairs_from (with_first first x) rest

abbrev pub no_first : MethodKey → Option Sig
no_first key = None

-- a turn of the loop
pub one_more : (old new : MethodKey → Option Sig) (x : SetMethod) (rest left : List SetMethod) (before after all : List MethodPair) → rest ≡ x ∷ left
    → after ≡ before ++ paired_with x.sig (old (key_of x)) → ((key : MethodKey) → new key ≡ with_first old x key)
    → before ++ pairs_from old rest ≡ all → after ++ pairs_from new left ≡ all
one_more old new x rest left before after all steps pairs firsts was =
    (λ i. pairs i ++ pairs_from (λ key. firsts key i) left) ∙ append_assoc before (paired_with x.sig (old (key_of x))) (pairs_from (with_first old x) left)
    ∙ ap (λ l. before ++ pairs_from old l) (sym steps) ∙ was

-- ---- keys

pub same_exact : (x y : MethodKey) → same x y ≡ true → x ≡ y
same_exact x y is =
    let parts = and_parts (same_text x.name y.name) (same_text x.home y.home) is in
    let name = (bytes_decides x.name y.name).0 parts.0 in
    let home = (bytes_decides x.home y.home).0 parts.1 in
    λ i. record { name = name i; home = home i }

pub same_turned : (x y : MethodKey) → same x y ≡ same y x
same_turned x y = λ i. nat_list_eq_equiv.symm x.name y.name i && nat_list_eq_equiv.symm x.home y.home i

-- ---- what the map knows

-- an insertion, and that a key which is known has come in already
pub comes_in : (old : Option Sig) (b : Bool) (sig : Sig) (new : Option Sig) → (b ≡ true → old ≡ None) → new ≡ cond b (Some sig) old → new ≡ first_or old b sig
comes_in (Some first) true sig new absent is = absurd (some_none first (absent refl))
  where
    some_none : (x : Sig) → Some x ≡ None → ⊥
    some_none x e = cc
comes_in (Some first) false sig new absent is = is
comes_in None true sig new absent is = is
comes_in None false sig new absent is = is

pub stays_in : (old : Option Sig) (b : Bool) (sig : Sig) → (b ≡ true → (first : Sig) × (old ≡ Some first)) → old ≡ first_or old b sig
stays_in (Some first) b sig there = refl
stays_in None true sig there = absurd (none_some (there refl).0 (there refl).1)
  where
    none_some : (x : Sig) → None ≡ Some x → ⊥
    none_some x e = cc
stays_in None false sig there = refl

-- an insertion of a key that isn't known
pub puts_first : (old new : MethodKey → Option Sig) (x : SetMethod) → old (key_of x) ≡ None
    → ((key : MethodKey) → new key ≡ cond (same (key_of x) key) (Some x.sig) (old key)) → (key : MethodKey) → new key ≡ with_first old x key
puts_first old new x none puts key =
    comes_in (old key) (same key (key_of x)) x.sig (new key) (λ is. ap old (same_exact key (key_of x) is) ∙ none)
    (puts key ∙ ap (λ b. cond b (Some x.sig) (old key)) (same_turned (key_of x) key))

-- a key that is known
pub keeps_first : (old : MethodKey → Option Sig) (x : SetMethod) (first : Sig) → old (key_of x) ≡ Some first → (key : MethodKey) → old key ≡ with_first old x key
keeps_first old x first there key =
    stays_in (old key) (same key (key_of x)) x.sig (λ is. (first, ap old (same_exact key (key_of x) is) ∙ there))

-- ---- the pairs that are meant

module _ (nodes : List Node) where
  abbrev Meaning : Type 0
  Meaning = SigOf Pos Text Tree

  -- the first signatures of their keys are those among these methods
  abbrev Agrees : (MethodKey → Option Sig) → List Method → Type 0
  Agrees first before = (m : Method) → option_map (sig_meant nodes) (first (record { name = m.name; home = m.home })) ≡ option_map (λ (x : Method). x.sig) (first_of_key m before)

  abbrev or_last : Option Method → Bool → Method → Option Method
  or_last (Some first) own x = Some first
  or_last None own x = cond own (Some x) None

  first_last : (m x : Method) (before : List Method) → first_of_key m (before ++ x ∷ []) ≡ or_last (first_of_key m before) (same_key m x) x
  first_last m x [] = refl
  first_last m x (y ∷ ys) = by (same_key m y) (first_last m x ys)
    where
      by : (b : Bool) → first_of_key m (ys ++ x ∷ []) ≡ or_last (first_of_key m ys) (same_key m x) x
          → cond b (Some y) (first_of_key m (ys ++ x ∷ [])) ≡ or_last (cond b (Some y) (first_of_key m ys)) (same_key m x) x
      by true later = refl
      by false later = later

  or_agrees : (r : Option Sig) (s : Option Method) (b : Bool) (sig : Sig) (x : Method) → option_map (sig_meant nodes) r ≡ option_map (λ (y : Method). y.sig) s → sig_meant nodes sig ≡ x.sig
      → option_map (sig_meant nodes) (first_or r b sig) ≡ option_map (λ (y : Method). y.sig) (or_last s b x)
  or_agrees (Some r) (Some s) b sig x is own = is
  or_agrees (Some r) None b sig x is own = absurd (some_none (sig_meant nodes r) is)
    where
      some_none : (y : Meaning) → Some y ≡ None → ⊥
      some_none y e = cc
  or_agrees None (Some s) b sig x is own = absurd (none_some s.sig is)
    where
      none_some : (y : Meaning) → None ≡ Some y → ⊥
      none_some y e = cc
  or_agrees None None true sig x is own = ap Some own
  or_agrees None None false sig x is own = refl

  agrees_more : (first : MethodKey → Option Sig) (before : List Method) (x : SetMethod) → Agrees first before → Agrees (with_first first x) (before ++ method_meant nodes x ∷ [])
  agrees_more first before x was m =
      or_agrees (first (record { name = m.name; home = m.home })) (first_of_key m before) (same_key m (method_meant nodes x)) x.sig (method_meant nodes x) (was m) refl
      ∙ ap (option_map (λ (y : Method). y.sig)) (sym (first_last m (method_meant nodes x) before))

  abbrev by_sig : Meaning → Option Meaning → List Pair
  by_sig sig None = []
  by_sig sig (Some first) = (sig, first) ∷ []

  meant_by : (sig : Sig) (r : Option Sig) → map (pair_meant nodes) (paired_with sig r) ≡ by_sig (sig_meant nodes sig) (option_map (sig_meant nodes) r)
  meant_by sig None = refl
  meant_by sig (Some first) = refl

  paired_by : (m : Method) (s : Option Method) → paired m s ≡ by_sig m.sig (option_map (λ (y : Method). y.sig) s)
  paired_by m None = refl
  paired_by m (Some first) = refl

  pairs_meant : (rest : List SetMethod) (first : MethodKey → Option Sig) (before : List Method) → Agrees first before
      → map (pair_meant nodes) (pairs_from first rest) ≡ pairs_among before (map (method_meant nodes) rest)
  pairs_meant [] first before was = refl
  pairs_meant (x ∷ rest) first before was =
      let m = method_meant nodes x in
      let own = meant_by x.sig (first (key_of x)) ∙ ap (by_sig m.sig) (was m) ∙ sym (paired_by m (first_of_key m before)) in
      map-append (pair_meant nodes) (paired_with x.sig (first (key_of x))) (pairs_from (with_first first x) rest)
      ∙ (λ i. own i ++ pairs_meant rest (with_first first x) (before ++ m ∷ []) (agrees_more first before x was) i)

  pub all_pairs_meant : (methods : List SetMethod) → map (pair_meant nodes) (pairs_from no_first methods) ≡ pairs_among [] (map (method_meant nodes) methods)
  all_pairs_meant methods = pairs_meant methods no_first [] (λ m. refl)

-- ---- their nodes

module _ (n : ℕ) where
  abbrev pub Below : Sig → Type 0
  Below x = AllBelow n (sig_types (sig_shape x))

  join : (xs ys : List ℕ) → AllBelow n xs → AllBelow n ys → AllBelow n (xs ++ ys)
  join [] ys left right = right
  join (x ∷ xs) ys left right = (left.0, join xs ys left.1 right)

  paired_below : (sig : Sig) (r : Option Sig) → Below sig → IfSome r Below → AllBelow n (flat_map pair_nodes (paired_with sig r))
  paired_below sig None own first = tt
  paired_below sig (Some f) own first = join (sig_types (sig_shape sig) ++ sig_types (sig_shape f)) [] (join (sig_types (sig_shape sig)) (sig_types (sig_shape f)) own first) tt

  or_below : (r : Option Sig) (b : Bool) (sig : Sig) → IfSome r Below → Below sig → IfSome (first_or r b sig) Below
  or_below (Some f) b sig first own = first
  or_below None true sig first own = own
  or_below None false sig first own = tt

  pub pairs_below : (rest : List SetMethod) (first : MethodKey → Option Sig) → ((key : MethodKey) → IfSome (first key) Below) → AllByRecursion (λ x. AllBelow n (method_nodes x)) rest
      → AllBelow n (flat_map pair_nodes (pairs_from first rest))
  pairs_below [] first firsts all = tt
  pairs_below (x ∷ rest) first firsts all =
      subst (AllBelow n) (sym (flat_map-append pair_nodes (paired_with x.sig (first (key_of x))) (pairs_from (with_first first x) rest)))
      (join (flat_map pair_nodes (paired_with x.sig (first (key_of x)))) (flat_map pair_nodes (pairs_from (with_first first x) rest)) (paired_below x.sig (first (key_of x)) all.0 (firsts (key_of x)))
      (pairs_below rest (with_first first x) (λ key. or_below (first key) (same key (key_of x)) x.sig (firsts key) all.0) all.1))

-- ---- the end of a loop

pub none_left : {X : Type 0} (xs : List X) → length xs ≡ 0 → xs ≡ []
none_left [] is = refl
none_left (x ∷ xs) is = absurd (omega (arith, is))

pub no_more : (xs : List MethodPair) → xs ++ [] ≡ xs
no_more [] = refl
no_more (x ∷ xs) = ap (λ l. x ∷ l) (no_more xs)
