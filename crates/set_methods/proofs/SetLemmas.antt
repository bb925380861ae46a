-- The first method of each key, one method after the other.
use Rattle.std.proofs.Common.{◌≡◌, ℕ, cond, List, [], ◌∷◌, map, Option, Some, None, Ok, Err, refl, ap, sym, subst, ◌∙◌}
use Rattle.std.specs.Prelude.{Result, IfOk, Vec}
use Rattle.std.specs.List.{AllByRecursion}
use Rattle.std.specs.Map.{lookup}
use Rattle.std.specs.BTreeMap.{insert_entry, is_at}
use Rattle.std.specs.Cmp.{IsTotalOrder}
use Rattle.std.specs.Cmp.Lexicographic.{on_texts}
use Rattle.std.specs.Ordering.{is_eq, match_ordering, ordering_reverse}
use Rattle.std.specs.declared.cmp.Ordering.{Ordering}
use Rattle.std.specs.declared.cmp.Ordering.TheVariants.{Less, Equal, Greater}
use Rattle.std.proofs.lemmas.Cmp.{then_total}
use Rattle.type_terms.specs.declared.descriptors.Node.{Node}
use Rattle.type_terms.specs.declared.literals.Sig.{Sig}
use Rattle.type_terms.specs.Arenas.{AllBelow}
use Rattle.type_terms.specs.NodeShapes.{sig_shape}
use Rattle.type_terms.specs.Shapes.{sig_types}
use Rattle.type_sets.specs.Interfaces.{SetMethod as Method}
use Rattle.type_sets.specs.TypeSets.{method_order, put_before, with_method, with_methods, Ascend}
use Rattle.interface_nodes.specs.declared.methods.SetMethod.{SetMethod}
use Rattle.interface_nodes.specs.HeldNodes.{method_meant, method_nodes}
use Rattle.set_methods.specs.declared.keys.MethodKey.{MethodKey}
use Rattle.set_methods.specs.Pairs.{key_of}
use Rattle.set_methods.specs.Sets.{key_order, method_of, unless_known, noted}

abbrev pub Entries : Type 0
Entries = List (MethodKey × Sig)

abbrev pub all_noted : Entries → List SetMethod → Entries
all_noted entries [] = entries
all_noted entries (x ∷ rest) = all_noted (noted entries x) rest

-- a turn of the loop
pub note_more : (old new all : Entries) (x : SetMethod) (rest left : List SetMethod) → rest ≡ x ∷ left → new ≡ noted old x → all_noted old rest ≡ all → all_noted new left ≡ all
note_more old new all x rest left steps is was = ap (λ es. all_noted es left) is ∙ ap (all_noted old) (sym steps) ∙ was

order : IsTotalOrder method_order
order = then_total (on_texts (λ (m : Method). m.name)) (on_texts (λ (m : Method). m.home))

-- ---- methods in their order

turned : (x y : Method) → method_order x y ≡ Greater → method_order y x ≡ Less
turned x y is = order.antisymm y x ∙ ap ordering_reverse is

abbrev Before : Method → List Method → Type 0
Before x = AllByRecursion (λ other. method_order x other ≡ Less)

before_chain : (x y : Method) (ys : List Method) → method_order x y ≡ Less → Before y ys → Before x ys
before_chain x y [] less all = tt
before_chain x y (z ∷ zs) less all = (order.trans x y z less all.0, before_chain x y zs less all.1)

before_more : (x y : Method) (ys : List Method) → method_order y x ≡ Less → Before y ys → Before y (with_method x ys)
before_more x y [] less all = (less, tt)
before_more x y (z ∷ zs) less all = by (before_more x y zs less all.1) (method_order x z)
  where
    by : Before y (with_method x zs) → (r : Ordering) → Before y (put_before r x z zs (with_method x zs))
    by rest Less = (less, all)
    by rest Equal = all
    by rest Greater = (all.0, rest)

ascends_more : (x : Method) (ys : List Method) → Ascend ys → Ascend (with_method x ys)
ascends_more x [] rises = (tt, tt)
ascends_more x (y ∷ ys) rises = by (ascends_more x ys rises.1) (method_order x y) refl
  where
    by : Ascend (with_method x ys) → (r : Ordering) → method_order x y ≡ r → Ascend (put_before r x y ys (with_method x ys))
    by rest Less is = ((is, before_chain x y ys is rises.0), rises)
    by rest Equal is = rises
    by rest Greater is = (before_more x y ys (turned x y is) rises.0, rest)

-- ---- the methods that are meant

module _ (nodes : List Node) where
  abbrev meant : MethodKey × Sig → Method
  meant entry = method_meant nodes (method_of entry)

  module _ (x : SetMethod) where
    abbrev own : Method
    own = method_meant nodes x

    abbrev found : Entries → Option Sig
    found entries = lookup (is_at (key_order (key_of x))) entries

    some_none : (sig : Sig) → Some sig ≡ None → ⊥
    some_none sig e = cc

    -- one of a key that is new goes to its place
    absent : (entries : Entries) → found entries ≡ None → map meant (insert_entry key_order entries (key_of x) x.sig) ≡ with_method own (map meant entries)
    absent [] none = refl
    absent (e ∷ es) none = by (key_order (key_of x) e.0) none (absent es)
      where
        by : (r : Ordering) → cond (is_eq r) (Some e.1) (found es) ≡ None
            → (found es ≡ None → map meant (insert_entry key_order es (key_of x) x.sig) ≡ with_method own (map meant es))
            → map meant (match_ordering r ((key_of x, x.sig) ∷ e ∷ es) ((e.0, x.sig) ∷ es) (e ∷ insert_entry key_order es (key_of x) x.sig))
            ≡ put_before r own (meant e) (map meant es) (with_method own (map meant es))
        by Less none later = refl
        by Equal none later = absurd (some_none e.1 none)
        by Greater none later = ap (λ l. meant e ∷ l) (later none)

    -- a key that is less than all isn't there
    none_after : (e : MethodKey × Sig) (entries : Entries) → method_order own (meant e) ≡ Less → AllByRecursion (λ other. method_order (meant e) other ≡ Less) (map meant entries)
        → found entries ≡ None
    none_after e [] less all = refl
    none_after e (f ∷ fs) less all = by (key_order (key_of x) f.0) (order.trans own (meant e) (meant f) less all.0) (none_after e fs less all.1)
      where
        by : (r : Ordering) → r ≡ Less → found fs ≡ None → cond (is_eq r) (Some f.1) (found fs) ≡ None
        by Less is later = later
        by Equal is later = absurd cc
        by Greater is later = later

    -- one of a key that is there changes nothing
    present : (entries : Entries) (sig : Sig) → Ascend (map meant entries) → found entries ≡ Some sig → map meant entries ≡ with_method own (map meant entries)
    present [] sig rises there = absurd (some_none sig (sym there))
    present (e ∷ es) sig rises there = by (key_order (key_of x) e.0) refl there (present es sig rises.1)
      where
        by : (r : Ordering) → key_order (key_of x) e.0 ≡ r → cond (is_eq r) (Some e.1) (found es) ≡ Some sig
            → (found es ≡ Some sig → map meant es ≡ with_method own (map meant es))
            → meant e ∷ map meant es ≡ put_before r own (meant e) (map meant es) (with_method own (map meant es))
        by Less is there later = absurd (some_none sig (sym there ∙ none_after e es is rises.0))
        by Equal is there later = refl
        by Greater is there later = ap (λ l. meant e ∷ l) (later there)

    noted_meant : (entries : Entries) → Ascend (map meant entries) → map meant (noted entries x) ≡ with_method own (map meant entries)
    noted_meant entries rises = by (found entries) refl
      where
        by : (r : Option Sig) → found entries ≡ r → map meant (unless_known r entries x) ≡ with_method own (map meant entries)
        by None is = absent entries is
        by (Some sig) is = present entries sig rises is

  sets_meant : (rest : List SetMethod) (entries : Entries) → Ascend (map meant entries) → map meant (all_noted entries rest) ≡ with_methods (map (method_meant nodes) rest) (map meant entries)
  sets_meant [] entries rises = refl
  sets_meant (x ∷ rest) entries rises =
      let is = noted_meant x entries rises in
      sets_meant rest (noted entries x) (subst Ascend (sym is) (ascends_more (own x) (map meant entries) rises))
      ∙ ap (with_methods (map (method_meant nodes) rest)) is

  map_twice : (entries : Entries) → map (method_meant nodes) (map method_of entries) ≡ map meant entries
  map_twice [] = refl
  map_twice (e ∷ es) = ap (λ l. meant e ∷ l) (map_twice es)

  pub all_sets_meant : (methods : List SetMethod) → map (method_meant nodes) (map method_of (all_noted [] methods)) ≡ with_methods (map (method_meant nodes) methods) []
  all_sets_meant methods = map_twice (all_noted [] methods) ∙ sets_meant methods [] tt

-- ---- their nodes

module _ (n : ℕ) where
  abbrev Within : SetMethod → Type 0
  Within x = AllBelow n (method_nodes x)

  abbrev AllFit : Entries → Type 0
  AllFit = AllByRecursion (λ e. AllBelow n (sig_types (sig_shape e.1)))

  inserted : (x : SetMethod) → Within x → (entries : Entries) → AllFit entries → AllFit (insert_entry key_order entries (key_of x) x.sig)
  inserted x own [] all = (own, tt)
  inserted x own (e ∷ es) all = by (key_order (key_of x) e.0) (inserted x own es all.1)
    where
      by : (r : Ordering) → AllFit (insert_entry key_order es (key_of x) x.sig)
          → AllFit (match_ordering r ((key_of x, x.sig) ∷ e ∷ es) ((e.0, x.sig) ∷ es) (e ∷ insert_entry key_order es (key_of x) x.sig))
      by Less later = (own, all)
      by Equal later = (own, all.1)
      by Greater later = (all.0, later)

  noted_fit : (x : SetMethod) → Within x → (entries : Entries) → AllFit entries → AllFit (noted entries x)
  noted_fit x own entries all = by (lookup (is_at (key_order (key_of x))) entries)
    where
      by : (r : Option Sig) → AllFit (unless_known r entries x)
      by None = inserted x own entries all
      by (Some sig) = all

  all_fit : (rest : List SetMethod) (entries : Entries) → AllByRecursion Within rest → AllFit entries → AllFit (all_noted entries rest)
  all_fit [] entries each all = all
  all_fit (x ∷ rest) entries each all = all_fit rest (noted entries x) each.1 (noted_fit x each.0 entries all)

  listed_fit : (entries : Entries) → AllFit entries → AllByRecursion Within (map method_of entries)
  listed_fit [] all = tt
  listed_fit (e ∷ es) all = (all.0, listed_fit es all.1)

  pub sets_fit : (methods : List SetMethod) → AllByRecursion (λ x. AllBelow n (method_nodes x)) methods → AllByRecursion (λ x. AllBelow n (method_nodes x)) (map method_of (all_noted [] methods))
  sets_fit methods each = listed_fit (all_noted [] methods) (all_fit methods [] each tt)

-- ---- the answer

pub if_listed : {A E : Type 0} (r : Result (Vec SetMethod A) E) (found : Entries) (Q : List SetMethod → Type 0) → IfOk r (λ own. own.items ≡ map method_of found)
    → Q (map method_of found) → IfOk r (λ own. Q own.items)
if_listed (Ok own) found Q is q = subst Q (sym is) q
if_listed (Err e) found Q is q = tt
