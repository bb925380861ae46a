-- The number of a type is that of its node: no two nodes of an arena denote one type.
use Rattle.std.proofs.Common.{◌≡◌, ℕ, ◌<◌, Bool, true, false, cond, List, [], ◌∷◌, length, Some, refl, ap, sym, subst, ◌∙◌, arith, true≢false}
use Rattle.std.specs.Prelude.{nat_eq}
use Rattle.std.specs.Map.{lookup}
use Rattle.std.proofs.lemmas.Bool.{eqb-true}
use Rattle.std.proofs.lemmas.Cmp.{nat_eq_equiv}
use Rattle.std.proofs.lemmas.List.Elements.{Contains-append_right, Contains-get_or}
use Rattle.type_terms.specs.declared.descriptors.Node.{Node}
use Rattle.type_terms.specs.Arenas.{IsArena}
use Rattle.type_terms.specs.Denotation.{tree}
use Rattle.type_terms.specs.Denoted.{tree_told}
use Rattle.type_terms.specs.TreeEquality.{same_tree, same_told, same_itself}
use Rattle.decl_text.specs.Numbers.{number_of}
use Rattle.decl_text.specs.NodeNumbers.{NodeNumbers, numbered_at, AreThere}

module _ (nodes : List Node) (arena : IsArena nodes) where
  same_nodes : (m n : ℕ) → m < length nodes → n < length nodes → same_tree (tree nodes m) (tree nodes n) ≡ nat_eq m n
  same_nodes m n here there = by (nat_eq m n) refl (same_tree (tree nodes m) (tree nodes n)) refl
    where
      by : (b : Bool) → nat_eq m n ≡ b → (c : Bool) → same_tree (tree nodes m) (tree nodes n) ≡ c → same_tree (tree nodes m) (tree nodes n) ≡ nat_eq m n
      by true e true f = f ∙ sym e
      by false e false f = f ∙ sym e
      by true e false f =
          let one : tree nodes m ≡ tree nodes n = ap (tree nodes) (eqb-true m n e) in
          let same : same_tree (tree nodes m) (tree nodes n) ≡ true = subst (λ t. same_tree (tree nodes m) t ≡ true) one (same_itself (tree nodes m)) in
          absurd (true≢false (sym same ∙ f))
      by false e true f =
          let one : m ≡ n = tree_told nodes arena m n here there (same_told (tree nodes m) (tree nodes n) f) in
          let same : nat_eq m n ≡ true = subst (λ k. nat_eq m k ≡ true) one (nat_eq_equiv.refl m) in
          absurd (true≢false (sym same ∙ e))

  pub number_at : (numbers : NodeNumbers) → AreThere nodes numbers → (id : ℕ) → id < length nodes → number_of (numbered_at nodes numbers) (tree nodes id) ≡ lookup (nat_eq id) numbers
  number_at [] there id below = refl
  number_at (entry ∷ rest) there id below =
      let first : entry.0 < length nodes = there entry (Contains-get_or (entry ∷ rest) 0 entry (omega arith)) in
      let same = same_nodes id entry.0 below first in
      let later = number_at rest (λ other held. there other (Contains-append_right (entry ∷ []) rest other held)) id below in
      λ i. cond (same i) (Some entry.1) (later i)
