-- Which interfaces have all types, and what the terms are where nothing covers anything.
use Rattle.std.proofs.Common.{◌≡◌, ℕ, ◌<◌, zero, suc, ◌+◌, arith, take, slice_get, Bool, true, false, ◌&&◌, ◌||◌, not, cond, List, [], ◌∷◌, length, map, Some, None, Ok, refl, ap, sym, subst, ◌∙◌, true≢false}
use Rattle.std.specs.Prelude.{nat_eq}
use Rattle.std.specs.List.{AllByRecursion}
use Rattle.std.proofs.lemmas.Bool.{eqb-true}
use Rattle.std.proofs.lemmas.Cmp.{nat_eq_equiv}
use Rattle.interface_opener.specs.declared.found.Event.{Event as Noted}
use Rattle.interface_opener.specs.Numbered.{event_of}
use Rattle.interface_opening.specs.Elements.{Term, Event, has_term, has_interface, ends_element, Opened}
use Rattle.interface_opening.specs.Mapped.{event_mapped, term_mapped}
use Rattle.interface_opening.specs.Terms.{Choice, Sum, meet_one, meet_lists, meet, more_terms, sum_of, put_sum, with_union, with_whole, happens, all_happen, terms_of}
use Rattle.interface_opening.specs.Terms as fold
use Rattle.interface_nodes.specs.declared.methods.SetMethod.{SetMethod}
use Rattle.go_values.specs.declared.qualified.QName.{QName}
use Rattle.replacement.specs.Expansion.{Entries, then}
use Rattle.type_sets.specs.Covering.{Answer}
use Rattle.type_sets.specs.TypeSets.{same_term, has_nothing}
use Rattle.type_terms.specs.Arenas.{IsArena}
use Rattle.type_terms.specs.declared.descriptors.Node.{Node}
use Rattle.type_terms.specs.Denotation.{tree}
use Rattle.type_terms.specs.Denoted.{tree_told}
use Rattle.type_terms.specs.Trees.{Tree}
use Rattle.type_terms.specs.TreeEquality.{same_tree, same_told, same_itself}
use Rattle.opened_interfaces.specs.Meant.{known_meant, EventWithin}
use Rattle.free_interfaces.specs.declared.all_types.Share.{Share}
use Rattle.free_interfaces.specs.AllTypes.{Shares, none_yet, put_share, after, all_after, free_by, is_none}

pub next_after : (es : List Noted) (k : ℕ) (e : Noted) (s : Shares) → slice_get es k ≡ Some e
    → all_after (map event_of (take (k + 1) es)) s ≡ after (event_of e) (all_after (map event_of (take k es)) s)
next_after es k e s at = let one : k + 1 ≡ suc k = omega arith in ap (λ n. all_after (map event_of (take n es)) s) one ∙ by es k s at
  where
    by : (xs : List Noted) (n : ℕ) (t : Shares) → slice_get xs n ≡ Some e
        → all_after (map event_of (take (suc n) xs)) t ≡ after (event_of e) (all_after (map event_of (take n xs)) t)
    by [] n t is = absurd cc
    by (x ∷ xs) zero t is = let same : x ≡ e = cc in ap (λ o. after (event_of o) t) same
    by (x ∷ xs) (suc n) t is = by xs n (after (event_of x) t) is

abbrev uncovered : Term Tree → Term Tree → Answer
uncovered x y = Ok false

abbrev all : Choice Tree → Bool
all None = true
all (Some xs) = false

-- Two lists leave none of their terms.
one_met : (x : Term Tree) (ys found : List (Term Tree)) → meet_one same_term uncovered x ys found ≡ Ok found
one_met x [] found = refl
one_met x (y ∷ ys) found = one_met x ys found

lists_met : (xs ys found : List (Term Tree)) → meet_lists same_term uncovered xs ys found ≡ Ok found
lists_met [] ys found = refl
lists_met (x ∷ xs) ys found =
    ap (λ m. fold.◌>>=◌ m (meet_lists same_term uncovered xs ys)) (one_met x ys found) ∙ lists_met xs ys found

meets : (a b : Choice Tree) → (c : Choice Tree) × (meet same_term uncovered a b ≡ Ok c) × (all c ≡ (all a && all b))
meets None c = (c, refl, refl)
meets (Some xs) None = (Some xs, refl, refl)
meets (Some xs) (Some ys) =
    (Some [], ap (λ m. fold.◌>>=◌ m (λ zs. Ok (Some zs))) (lists_met xs ys []), refl)

joins : (a b : Choice Tree) → all (more_terms a b) ≡ (all a || all b)
joins None None = refl
joins None (Some ys) = refl
joins (Some xs) None = refl
joins (Some xs) (Some ys) = refl

-- what is known of an interface
of_it : (sums : List (Sum Tree)) (t : Tree) → (sum_of same_tree same_term uncovered sums t).of ≡ t
of_it [] t = refl
of_it (s ∷ sums) t = by (of_it sums t) (same_tree t s.of) refl
  where
    by : (sum_of same_tree same_term uncovered sums t).of ≡ t → (b : Bool) → same_tree t s.of ≡ b → (cond b s (sum_of same_tree same_term uncovered sums t)).of ≡ t
    by rest true e = sym (same_told t s.of e)
    by rest false e = rest

put_found : (sums : List (Sum Tree)) (s : Sum Tree) (t : Tree)
    → sum_of same_tree same_term uncovered (put_sum same_tree same_term uncovered sums s) t ≡ cond (same_tree t s.of) s (sum_of same_tree same_term uncovered sums t)
put_found [] s t = refl
put_found (first ∷ sums) s t = by (put_found sums s t) (same_tree s.of first.of) refl
  where
    in_place : (rest : Sum Tree) → same_tree s.of first.of ≡ true → (c : Bool) → same_tree t s.of ≡ c → cond c s rest ≡ cond c s (cond (same_tree t first.of) first rest)
    in_place rest e true f = refl
    in_place rest e false f =
        let one : s.of ≡ first.of = same_told s.of first.of e in
        let no : same_tree t first.of ≡ false = subst (λ o. same_tree t o ≡ false) one f in
        ap (λ b. cond b first rest) (sym no)

    behind : (rest : Sum Tree) → same_tree s.of first.of ≡ false → (c d : Bool) → same_tree t s.of ≡ c → same_tree t first.of ≡ d
        → cond d first (cond c s rest) ≡ cond c s (cond d first rest)
    behind rest e true false f g = refl
    behind rest e false true f g = refl
    behind rest e false false f g = refl
    behind rest e true true f g =
        let one : s.of ≡ first.of = sym (same_told t s.of f) ∙ same_told t first.of g in
        absurd (true≢false (sym (subst (λ o. same_tree s.of o ≡ true) one (same_itself s.of)) ∙ e))

    by : sum_of same_tree same_term uncovered (put_sum same_tree same_term uncovered sums s) t ≡ cond (same_tree t s.of) s (sum_of same_tree same_term uncovered sums t)
        → (b : Bool) → same_tree s.of first.of ≡ b
        → sum_of same_tree same_term uncovered (cond b (s ∷ sums) (first ∷ put_sum same_tree same_term uncovered sums s)) t
        ≡ cond (same_tree t s.of) s (sum_of same_tree same_term uncovered (first ∷ sums) t)
    by more true e = in_place (sum_of same_tree same_term uncovered sums t) e (same_tree t s.of) refl
    by more false e = ap (λ r. cond (same_tree t first.of) first r) more ∙ behind (sum_of same_tree same_term uncovered sums t) e (same_tree t s.of) (same_tree t first.of) refl refl

abbrev share : Sum Tree → Share
share s = record { whole = all s.whole; union = all s.union }

shared : (b : Bool) (s t : Sum Tree) → share (cond b s t) ≡ cond b (share s) (share t)
shared true s t = refl
shared false s t = refl

module _ (nodes : List Node) (arena : IsArena nodes) where
  told : (m n : ℕ) → m < length nodes → n < length nodes → same_tree (tree nodes m) (tree nodes n) ≡ nat_eq n m
  told m n here there = by (nat_eq n m) refl (same_tree (tree nodes m) (tree nodes n)) refl
    where
      by : (b : Bool) → nat_eq n m ≡ b → (c : Bool) → same_tree (tree nodes m) (tree nodes n) ≡ c → same_tree (tree nodes m) (tree nodes n) ≡ nat_eq n m
      by true e true f = f ∙ sym e
      by false e false f = f ∙ sym e
      by true e false f =
          let one : tree nodes m ≡ tree nodes n = ap (tree nodes) (sym (eqb-true n m e)) in
          let same : same_tree (tree nodes m) (tree nodes n) ≡ true = subst (λ t. same_tree (tree nodes m) t ≡ true) one (same_itself (tree nodes m)) in
          absurd (true≢false (sym same ∙ f))
      by false e true f =
          let one : m ≡ n = tree_told nodes arena m n here there (same_told (tree nodes m) (tree nodes n) f) in
          let same : nat_eq n m ≡ true = subst (λ k. nat_eq n k ≡ true) (sym one) (nat_eq_equiv.refl n) in
          absurd (true≢false (sym same ∙ e))

  abbrev known_of : List (Sum Tree) → ℕ → Sum Tree
  known_of sums n = sum_of same_tree same_term uncovered sums (tree nodes n)

  -- each interface has all types by the one where it has by the other
  abbrev Tied : Shares → List (Sum Tree) → Type 0
  Tied shares sums = (n : ℕ) → n < length nodes → shares n ≡ share (known_of sums n)

  put_tied : (shares : Shares) (sums : List (Sum Tree)) → Tied shares sums → (holder : ℕ) → holder < length nodes
      → (s : Sum Tree) → s.of ≡ tree nodes holder → (new : Share) → new ≡ share s
      → Tied (put_share holder new shares) (put_sum same_tree same_term uncovered sums s)
  put_tied shares sums tied holder there s of_is new is n below =
      (λ i. cond (nat_eq holder n) (is i) (tied n below i))
      ∙ sym (shared (nat_eq holder n) s (known_of sums n))
      ∙ ap (λ b. share (cond b s (known_of sums n))) (sym (ap (same_tree (tree nodes n)) of_is ∙ told n holder below there))
      ∙ ap share (sym (put_found sums s (tree nodes n)))

  stays_put : (shares : Shares) (holder n : ℕ) → put_share holder (shares holder) shares n ≡ shares n
  stays_put shares holder n = by (nat_eq holder n) refl
    where
      by : (b : Bool) → nat_eq holder n ≡ b → cond b (shares holder) (shares n) ≡ shares n
      by true e = ap shares (eqb-true holder n e)
      by false e = refl

  pub record Came (event : Event ℕ) (shares : Shares) (sums : List (Sum Tree)) : Type 0 where
    pub new : List (Sum Tree)
    pub is : happens same_tree same_term uncovered (event_mapped (tree nodes) event) sums ≡ Ok new
    pub tied : Tied (after event shares) new

  comes : (event : Event ℕ) (shares : Shares) (sums : List (Sum Tree)) → EventWithin (length nodes) event → Tied shares sums → Came event shares sums
  comes (has_term holder x) shares sums within tied =
      let s = known_of sums holder in
      let now = with_union same_tree same_term uncovered s (Some (term_mapped (tree nodes) x ∷ [])) in
      let same : share now ≡ share s = ap (λ b. record { whole = all s.whole; union = b }) (joins s.union (Some (term_mapped (tree nodes) x ∷ [])) ∙ or_false (all s.union)) in
      record {
        new = put_sum same_tree same_term uncovered sums now;
        is = refl;
        tied = λ n below. sym (stays_put shares holder n)
            ∙ put_tied shares sums tied holder within.0 now (of_it sums (tree nodes holder)) (shares holder) (tied holder within.0 ∙ sym same) n below;
      }
    where
      or_false : (b : Bool) → (b || false) ≡ b
      or_false true = refl
      or_false false = refl
  comes (has_interface holder of) shares sums within tied =
      let s = known_of sums holder in
      let inner = (known_of sums of).whole in
      let now = with_union same_tree same_term uncovered s inner in
      let here = tied holder within.0 in
      let there = tied of within.1 in
      record {
        new = put_sum same_tree same_term uncovered sums now;
        is = refl;
        tied = put_tied shares sums tied holder within.0 now (of_it sums (tree nodes holder)) _
            ((λ i. record { whole = (here i).whole; union = (here i).union || (there i).whole })
            ∙ ap (λ b. record { whole = all s.whole; union = b }) (sym (joins s.union inner)));
      }
  comes (ends_element holder) shares sums within tied =
      let s = known_of sums holder in
      let m = meets s.whole s.union in
      let now = with_whole same_tree same_term uncovered s m.0 in
      let here = tied holder within in
      record {
        new = put_sum same_tree same_term uncovered sums now;
        is = ap (λ r. fold.◌>>=◌ r (λ c. Ok (put_sum same_tree same_term uncovered sums (with_whole same_tree same_term uncovered s c)))) m.1;
        tied = put_tied shares sums tied holder within now (of_it sums (tree nodes holder)) _
            (λ i. record { whole = ((λ j. (here j).whole && (here j).union) ∙ sym m.2) i; union = false });
      }

  pub record AllCame (events : List (Event ℕ)) (shares : Shares) (sums : List (Sum Tree)) : Type 0 where
    pub new : List (Sum Tree)
    pub is : all_happen same_tree same_term uncovered (map (event_mapped (tree nodes)) events) sums ≡ Ok new
    pub tied : Tied (all_after events shares) new

  all_come : (events : List (Event ℕ)) (shares : Shares) (sums : List (Sum Tree)) → AllByRecursion (EventWithin (length nodes)) events → Tied shares sums → AllCame events shares sums
  all_come [] shares sums within tied = record { new = sums; is = refl; tied = tied }
  all_come (event ∷ events) shares sums within tied =
      let first = comes event shares sums within.0 tied in
      let rest = all_come events (after event shares) first.new within.1 first.tied in
      record {
        new = rest.new;
        is = ap (λ r. fold.◌>>=◌ r (all_happen same_tree same_term uncovered (map (event_mapped (tree nodes)) events))) first.is ∙ rest.is;
        tied = rest.tied;
      }

  has_none : (entries : Entries) (names : List QName) (s : Opened ℕ SetMethod) (terms : Choice Tree)
      → has_nothing entries names (known_meant nodes s).methods s.flag terms ≡ ((all terms && is_none s.methods) && not s.flag)
  has_none entries names s terms = by s.methods s.flag terms
    where
      by : (ms : List SetMethod) (flag : Bool) (c : Choice Tree)
          → has_nothing entries names (known_meant nodes (record { types = s.types; methods = ms; flag = flag; marked = s.marked; events = s.events })).methods flag c ≡ ((all c && is_none ms) && not flag)
      by [] false None = refl
      by [] false (Some xs) = refl
      by [] true None = refl
      by [] true (Some xs) = refl
      by (m ∷ ms) false None = refl
      by (m ∷ ms) false (Some xs) = refl
      by (m ∷ ms) true None = refl
      by (m ∷ ms) true (Some xs) = refl

  pub freed : (entries : Entries) (names : List QName) (s : Opened ℕ SetMethod) (node : ℕ) → AllByRecursion (EventWithin (length nodes)) s.events → node < length nodes
      → free_by entries names (known_meant nodes s) (tree nodes node) ≡ Ok (((all_after s.events none_yet node).union && is_none s.methods) && not s.flag)
  freed entries names s node within there =
      let came = all_come s.events none_yet [] within (λ n below. refl) in
      let terms = (known_of came.new node).union in
      ap (λ r. then (fold.◌>>=◌ r (λ sums. Ok (sum_of same_tree same_term uncovered sums (tree nodes node)).union)) (λ terms. Ok (has_nothing entries names (known_meant nodes s).methods s.flag terms))) came.is
      ∙ ap (λ b. Ok b) (has_none entries names s terms ∙ ap (λ b. (b && is_none s.methods) && not s.flag) (sym (ap (λ (x : Share). x.union) (came.tied node there))))
