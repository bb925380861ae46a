-- Terms that are found, by numbers of nodes.
use Rattle.std.proofs.Common.{zero, suc, ◌≤◌, ◌+◌, arith, get_or, drop, drop-cons, ◌≡◌, ℕ, ◌<◌, ◌||◌, Bool, true, false, cond, List, [], ◌∷◌, ◌++◌, length, Option, Some, Ok, refl, ap, sym, subst, ◌∙◌, true≢false}
use Rattle.std.specs.Prelude.{nat_eq, IfSome, option_map}
use Rattle.std.specs.List.{list_any}
use Rattle.std.proofs.lemmas.Bool.{eqb-true}
use Rattle.std.proofs.lemmas.Cmp.{nat_eq_equiv}
use Rattle.std.proofs.lemmas.List.{map-append}
use Rattle.type_terms.specs.declared.descriptors.Node.{Node}
use Rattle.type_terms.specs.declared.literals.Term.{Term as Code}
use Rattle.type_terms.specs.contracts.literals.TermPartialEq.TheImpl as term_eq
use Rattle.type_terms.specs.Arenas.{Contents, IsArena, Extends}
use Rattle.type_terms.specs.Denotation.{tree}
use Rattle.type_terms.specs.Extensions.{extends_below}
use Rattle.type_terms.specs.Denoted.{tree_told}
use Rattle.type_terms.specs.Trees.{Tree}
use Rattle.type_terms.specs.TreeEquality.{same_tree, same_told, same_itself}
use Rattle.indexmap.specs.IndexSet.{insert_key}
use Rattle.interface_opening.specs.Elements.{Term}
use Rattle.interface_opening.specs.Terms.{◌>>=◌, with_term, common}
use Rattle.type_sets.specs.Covering.{Answer}
use Rattle.type_sets.specs.TypeSets.{same_term}
use Rattle.common_terms.specs.Calls.{AllWithin}
use Rattle.common_terms.specs.Comparing.{term_meant, terms_meant, compared}
use Rattle.common_terms.proofs.CommonLemmas.{term_stays}

abbrev pub same_code : Code → Code → Bool
same_code = term_eq.ghosts.eq

module _ (nodes : List Node) (arena : IsArena nodes) where
  same_nodes : (m n : ℕ) → m < length nodes → n < length nodes → same_tree (tree nodes m) (tree nodes n) ≡ nat_eq m n
  same_nodes m n here there = by (nat_eq m n) refl (same_tree (tree nodes m) (tree nodes n)) refl
    where
      by : (b : Bool) → nat_eq m n ≡ b → (c : Bool) → same_tree (tree nodes m) (tree nodes n) ≡ c → same_tree (tree nodes m) (tree nodes n) ≡ nat_eq m n
      by true e true f = f ∙ sym e
      by false e false f = f ∙ sym e
      by true e false f =
          let one : tree nodes m ≡ tree nodes n = ap (tree nodes) (eqb-true m n e) in
          let same : same_tree (tree nodes m) (tree nodes n) ≡ true = subst (λ t. same_tree (tree nodes m) t ≡ true) one (same_itself (tree nodes m)) in
          absurd (true≢false (sym same ∙ f))
      by false e true f =
          let one : m ≡ n = tree_told nodes arena m n here there (same_told (tree nodes m) (tree nodes n) f) in
          let same : nat_eq m n ≡ true = subst (λ k. nat_eq m k ≡ true) one (nat_eq_equiv.refl m) in
          absurd (true≢false (sym same ∙ e))

  same_terms : (x y : Code) → x.ty < length nodes → y.ty < length nodes → same_term (term_meant nodes x) (term_meant nodes y) ≡ same_code x y
  same_terms x y here there = by x.tilde y.tilde
    where
      by : (a b : Bool) → same_term (record { tilde = a; type = tree nodes x.ty }) (record { tilde = b; type = tree nodes y.ty })
          ≡ same_code (record { tilde = a; ty = x.ty }) (record { tilde = b; ty = y.ty })
      by true true = same_nodes x.ty y.ty here there
      by false false = same_nodes x.ty y.ty here there
      by true false = refl
      by false true = refl

  any_same : (z : Code) → z.ty < length nodes → (found : List Code) → AllWithin (length nodes) found
      → list_any (same_term (term_meant nodes z)) (terms_meant nodes found) ≡ list_any (same_code z) found
  any_same z here [] all = refl
  any_same z here (x ∷ xs) all = (λ i. same_terms z x here all.0 i || any_same z here xs all.1 i)

  -- a term comes to those that were found
  pub found_more : (covered : Term Tree → Term Tree → Answer) (z : Code) → z.ty < length nodes → (found : List Code) → AllWithin (length nodes) found
      → with_term same_term covered (terms_meant nodes found) (Some (term_meant nodes z)) ≡ terms_meant nodes (insert_key same_code found z)
  found_more covered z here found all =
      ap (λ b. cond b (terms_meant nodes found) (terms_meant nodes found ++ term_meant nodes z ∷ [])) (any_same z here found all)
      ∙ by (list_any (same_code z) found)
    where
      by : (b : Bool) → cond b (terms_meant nodes found) (terms_meant nodes found ++ term_meant nodes z ∷ []) ≡ terms_meant nodes (cond b found (found ++ z ∷ []))
      by true = refl
      by false = sym (map-append (term_meant nodes) found (z ∷ []))

pub within_more : (n : ℕ) (z : Code) (found : List Code) → z.ty < n → AllWithin n found → AllWithin n (insert_key same_code found z)
within_more n z found here all = by (list_any (same_code z) found)
  where
    last : (xs : List Code) → AllWithin n xs → AllWithin n (xs ++ z ∷ [])
    last [] all = (here, tt)
    last (x ∷ xs) all = (all.0, last xs all.1)

    by : (b : Bool) → AllWithin n (cond b found (found ++ z ∷ []))
    by true = all
    by false = last found all

-- terms stay as an arena grows
pub terms_stay : (old new : Contents) → Extends old new → (xs : List Code) → AllWithin (length old.nodes) xs → terms_meant new.nodes xs ≡ terms_meant old.nodes xs
terms_stay old new grown [] all = refl
terms_stay old new grown (x ∷ xs) all = let head = term_stays old new grown x all.0 in let tail = terms_stay old new grown xs all.1 in λ i. head i ∷ tail i

-- a term that two have in common comes to those that were found
pub meet_adds : (nodes : List Node) → IsArena nodes → (covered : Term Tree → Term Tree → Answer) (x y : Term Tree) (r : Option Code) (z : Code) (found new : List Code) → r ≡ Some z
    → common same_term covered x y ≡ Ok (option_map (term_meant nodes) r) → IfSome r (λ t. t.ty < length nodes) → AllWithin (length nodes) found → new ≡ insert_key same_code found z
    → compared same_term covered x y (terms_meant nodes found) ≡ Ok (terms_meant nodes new)
meet_adds nodes arena covered x y r z found new one is below all added =
    ap (λ a. a >>= λ t. Ok (with_term same_term covered (terms_meant nodes found) t)) (is ∙ ap (λ o. Ok (option_map (term_meant nodes) o)) one)
    ∙ ap Ok (found_more nodes arena covered z (subst (λ o. IfSome o (λ t. t.ty < length nodes)) one below) found all ∙ ap (terms_meant nodes) (sym added))

pub meet_within : (n : ℕ) (r : Option Code) (z : Code) (found new : List Code) → r ≡ Some z → IfSome r (λ t. t.ty < n) → AllWithin n found → new ≡ insert_key same_code found z → AllWithin n new
meet_within n r z found new one below all added =
    subst (AllWithin n) (sym added) (within_more n z found (subst (λ o. IfSome o (λ t. t.ty < n)) one below) all)

-- ---- items of a list, and numbers below the length of an arena that grows

pub below_grown : (old new : Contents) → Extends old new → (k : ℕ) → k < length old.nodes → k < length new.nodes
below_grown old new grown k below = (extends_below old new grown (k ∷ []) (below, tt)).0

pub within_grown : (old new : Contents) → Extends old new → (xs : List Code) → AllWithin (length old.nodes) xs → AllWithin (length new.nodes) xs
within_grown old new grown [] all = tt
within_grown old new grown (x ∷ xs) all = (below_grown old new grown x.ty all.0, within_grown old new grown xs all.1)

pub item_in : (xs : List Code) (i : ℕ) (x : Code) → i < length xs → x ≡ get_or xs i x → drop i xs ≡ x ∷ drop (suc i) xs
item_in xs i x inside item = drop-cons xs i x inside ∙ ap (λ y. y ∷ drop (suc i) xs) (sym item)

all_dropped : (n i : ℕ) (xs : List Code) → AllWithin n xs → AllWithin n (drop i xs)
all_dropped n zero xs all = all
all_dropped n (suc i) [] all = tt
all_dropped n (suc i) (x ∷ xs) all = all_dropped n i xs all.1

pub item_below : (n i : ℕ) (xs : List Code) (x : Code) (rest : List Code) → AllWithin n xs → drop i xs ≡ x ∷ rest → x.ty < n
item_below n i xs x rest all is = (subst (AllWithin n) is (all_dropped n i xs all)).0

pub drop_past : (xs : List Code) (k : ℕ) → length xs ≤ k → drop k xs ≡ []
drop_past [] zero past = refl
drop_past [] (suc k) past = refl
drop_past (x ∷ xs) zero past = absurd (omega (arith, past))
drop_past (x ∷ xs) (suc k) past = drop_past xs k (omega (arith, past))

pub one_more : (i : ℕ) → suc i ≡ i + 1
one_more i = omega arith
