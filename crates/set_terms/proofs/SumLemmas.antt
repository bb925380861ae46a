-- What interfaces have, by numbers of nodes and by the types that they denote.
use Rattle.std.proofs.Common.{◌≡◌, ℕ, ◌<◌, Bool, true, false, cond, List, [], ◌∷◌, length, refl, ap, sym, subst, ◌∙◌, true≢false}
use Rattle.std.specs.Prelude.{nat_eq}
use Rattle.std.proofs.lemmas.Bool.{eqb-true}
use Rattle.std.proofs.lemmas.Cmp.{nat_eq_equiv}
use Rattle.type_terms.specs.declared.descriptors.Node.{Node}
use Rattle.type_terms.specs.Arenas.{IsArena}
use Rattle.type_terms.specs.Denotation.{tree}
use Rattle.type_terms.specs.Denoted.{tree_told}
use Rattle.type_terms.specs.Trees.{Tree}
use Rattle.type_terms.specs.TreeEquality.{same_tree, same_told, same_itself}
use Rattle.interface_opening.specs.Elements.{Term}
use Rattle.interface_opening.specs.Terms.{Sum, sum_of, put_sum}
use Rattle.type_sets.specs.Covering.{Answer}
use Rattle.type_sets.specs.TypeSets.{same_term}
use Rattle.set_terms.specs.Known.{Known}
use Rattle.set_terms.specs.Meant.{choice_meant, sum_at}

module _ (covered : Term Tree → Term Tree → Answer) where
  abbrev pub sum_for : List (Sum Tree) → Tree → Sum Tree
  sum_for = sum_of same_tree same_term covered

  abbrev pub put_for : List (Sum Tree) → Sum Tree → List (Sum Tree)
  put_for = put_sum same_tree same_term covered

  -- what is put of a type is found for it, and what was is found for another one
  put_found : (sums : List (Sum Tree)) (s : Sum Tree) (t : Tree) → sum_for (put_for sums s) t ≡ cond (same_tree t s.of) s (sum_for sums t)
  put_found [] s t = refl
  put_found (first ∷ sums) s t = by (put_found sums s t) (same_tree s.of first.of) refl
    where
      in_place : (rest : Sum Tree) → same_tree s.of first.of ≡ true → (c : Bool) → same_tree t s.of ≡ c → cond c s rest ≡ cond c s (cond (same_tree t first.of) first rest)
      in_place rest e true f = refl
      in_place rest e false f =
          let one : s.of ≡ first.of = same_told s.of first.of e in
          let no : same_tree t first.of ≡ false = subst (λ o. same_tree t o ≡ false) one f in
          ap (λ b. cond b first rest) (sym no)

      behind : (rest : Sum Tree) → same_tree s.of first.of ≡ false → (c d : Bool) → same_tree t s.of ≡ c → same_tree t first.of ≡ d
          → cond d first (cond c s rest) ≡ cond c s (cond d first rest)
      behind rest e true false f g = refl
      behind rest e false true f g = refl
      behind rest e false false f g = refl
      behind rest e true true f g =
          let one : s.of ≡ first.of = sym (same_told t s.of f) ∙ same_told t first.of g in
          absurd (true≢false (sym (subst (λ o. same_tree s.of o ≡ true) one (same_itself s.of)) ∙ e))

      by : sum_for (put_for sums s) t ≡ cond (same_tree t s.of) s (sum_for sums t) → (b : Bool) → same_tree s.of first.of ≡ b
          → sum_for (cond b (s ∷ sums) (first ∷ put_for sums s)) t ≡ cond (same_tree t s.of) s (sum_for (first ∷ sums) t)
      by more true e = in_place (sum_for sums t) e (same_tree t s.of) refl
      by more false e = ap (λ r. cond (same_tree t first.of) first r) more ∙ behind (sum_for sums t) e (same_tree t s.of) (same_tree t first.of) refl refl

  module _ (nodes : List Node) where
    -- interfaces have by the one what they have by the other
    abbrev pub Tied : Known → List (Sum Tree) → Type 0
    Tied known sums = (n : ℕ) → n < length nodes → sum_at nodes known n ≡ sum_for sums (tree nodes n)

    module _ (arena : IsArena nodes) where
      told : (m n : ℕ) → m < length nodes → n < length nodes → same_tree (tree nodes m) (tree nodes n) ≡ nat_eq n m
      told m n here there = by (nat_eq n m) refl (same_tree (tree nodes m) (tree nodes n)) refl
        where
          by : (b : Bool) → nat_eq n m ≡ b → (c : Bool) → same_tree (tree nodes m) (tree nodes n) ≡ c → same_tree (tree nodes m) (tree nodes n) ≡ nat_eq n m
          by true e true f = f ∙ sym e
          by false e false f = f ∙ sym e
          by true e false f =
              let one : tree nodes m ≡ tree nodes n = ap (tree nodes) (sym (eqb-true n m e)) in
              let same : same_tree (tree nodes m) (tree nodes n) ≡ true = subst (λ t. same_tree (tree nodes m) t ≡ true) one (same_itself (tree nodes m)) in
              absurd (true≢false (sym same ∙ f))
          by false e true f =
              let one : m ≡ n = tree_told nodes arena m n here there (same_told (tree nodes m) (tree nodes n) f) in
              let same : nat_eq n m ≡ true = subst (λ k. nat_eq n k ≡ true) (sym one) (nat_eq_equiv.refl n) in
              absurd (true≢false (sym same ∙ e))

      pub put_tied : (old new : Known) (sums : List (Sum Tree)) (holder : ℕ) → holder < length nodes → Tied old sums
          → ((id : ℕ) → nat_eq holder id ≡ false → new.wholes id ≡ old.wholes id)
          → ((id : ℕ) → nat_eq holder id ≡ false → new.unions id ≡ old.unions id) → Tied new (put_for sums (sum_at nodes new holder))
      put_tied old new sums holder there tied wholes unions n below =
          by (nat_eq holder n) refl
          ∙ ap (λ b. cond b (sum_at nodes new holder) (sum_for sums (tree nodes n))) (sym (told n holder below there))
          ∙ sym (put_found sums (sum_at nodes new holder) (tree nodes n))
        where
          by : (b : Bool) → nat_eq holder n ≡ b → sum_at nodes new n ≡ cond (nat_eq holder n) (sum_at nodes new holder) (sum_for sums (tree nodes n))
          by true e =
              ap (sum_at nodes new) (sym (eqb-true holder n e)) ∙ ap (λ b. cond b (sum_at nodes new holder) (sum_for sums (tree nodes n))) (sym e)
          by false e =
              (λ i. record { of = tree nodes n; whole = choice_meant nodes (wholes n e i); union = choice_meant nodes (unions n e i) })
              ∙ tied n below
              ∙ ap (λ b. cond b (sum_at nodes new holder) (sum_for sums (tree nodes n))) (sym e)
