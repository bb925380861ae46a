-- The first of some references that dangles, where they are joined.
use Rattle.std.proofs.Common.{◌≡◌, ℕ, zero, suc, ◌+◌, List, [], ◌∷◌, ◌++◌, length, map, take, drop, cond, Bool, true, false, Some, None, slice_get, refl, sym, ap, ◌∙◌, subst, arith, append_assoc}
use Rattle.std.specs.List.{flat_map}
use Rattle.type_terms.specs.declared.descriptors.Node.{Node}
use Rattle.type_terms.specs.Denotation.{tree}
use Rattle.environments.specs.References.{tree_references}
use Rattle.environments.specs.declared.mentions.Reference.{Reference}
use Rattle.dangling_references.specs.Dangling.{Entries}
use Rattle.dangling_types.specs.declared.finding.Finding.{Finding}
use Rattle.dangling_types.specs.declared.finding.Finding.TheVariants.{Dangles}
use Rattle.dangling_types.specs.FirstDangling.{fits, first_dangling}
use Rattle.dangling_types.specs.NodeReferences.{Finds}

module _ (entries : Entries) where
  pub none_then : (xs ys : List Reference) → first_dangling entries xs ≡ None → first_dangling entries (xs ++ ys) ≡ first_dangling entries ys
  none_then [] ys e = refl
  none_then (x ∷ xs) ys e = by (fits entries x) (none_then xs ys) e
    where
      by : (b : Bool) → (first_dangling entries xs ≡ None → first_dangling entries (xs ++ ys) ≡ first_dangling entries ys)
          → cond b (first_dangling entries xs) (Some x) ≡ None → cond b (first_dangling entries (xs ++ ys)) (Some x) ≡ first_dangling entries ys
      by true later e = later e
      by false later e = absurd cc

  pub some_then : (xs ys : List Reference) (r : Reference) → first_dangling entries xs ≡ Some r → first_dangling entries (xs ++ ys) ≡ Some r
  some_then [] ys r e = absurd cc
  some_then (x ∷ xs) ys r e = by (fits entries x) (some_then xs ys r) e
    where
      by : (b : Bool) → (first_dangling entries xs ≡ Some r → first_dangling entries (xs ++ ys) ≡ Some r)
          → cond b (first_dangling entries xs) (Some x) ≡ Some r → cond b (first_dangling entries (xs ++ ys)) (Some x) ≡ Some r
      by true later e = later e
      by false later e = e

  module _ (nodes : List Node) where
    pub finds_later : (xs ys : List Reference) (finding : Finding) → first_dangling entries xs ≡ None → Finds nodes finding (first_dangling entries ys) → Finds nodes finding (first_dangling entries (xs ++ ys))
    finds_later xs ys finding none finds = subst (Finds nodes finding) (sym (none_then xs ys none)) finds

    pub finds_first : (xs ys : List Reference) (id : ℕ) → Finds nodes (Dangles id) (first_dangling entries xs) → Finds nodes (Dangles id) (first_dangling entries (xs ++ ys))
    finds_first xs ys id (r, at, is) = (r, at, some_then xs ys r is)

    -- the references of some types
    abbrev pub refs_of : List ℕ → List Reference
    refs_of ids = flat_map tree_references (map (tree nodes) ids)

    pub refs_append : (xs ys : List ℕ) → refs_of (xs ++ ys) ≡ refs_of xs ++ refs_of ys
    refs_append [] ys = refl
    refs_append (x ∷ xs) ys = ap (λ (rest : List Reference). tree_references (tree nodes x) ++ rest) (refs_append xs ys)
        ∙ sym (append_assoc (tree_references (tree nodes x)) (refs_of xs) (refs_of ys))

    split_at : (xs : List ℕ) (i x : ℕ) → slice_get xs i ≡ Some x → xs ≡ take i xs ++ x ∷ drop (suc i) xs
    split_at [] i x at = absurd cc
    split_at (y ∷ xs) zero x at = let same : y ≡ x = cc in ap (λ y. y ∷ xs) same
    split_at (y ∷ xs) (suc i) x at = ap (λ ys. y ∷ ys) (split_at xs i x at)

    take_next : (xs : List ℕ) (i x : ℕ) → slice_get xs i ≡ Some x → take (suc i) xs ≡ take i xs ++ x ∷ []
    take_next [] i x at = absurd cc
    take_next (y ∷ xs) zero x at = let same : y ≡ x = cc in ap (λ y. y ∷ []) same
    take_next (y ∷ xs) (suc i) x at = ap (λ ys. y ∷ ys) (take_next xs i x at)

    -- those before a place have none
    abbrev pub NoneUpTo : List ℕ → ℕ → Type 0
    NoneUpTo ids i = first_dangling entries (refs_of (take i ids)) ≡ None

    pub none_at_start : (ids : List ℕ) → NoneUpTo ids 0
    none_at_start [] = refl
    none_at_start (x ∷ xs) = refl

    module _ (ids : List ℕ) (i id : ℕ) (at : slice_get ids i ≡ Some id) (none : NoneUpTo ids i) where
      pub none_goes : first_dangling entries (tree_references (tree nodes id)) ≡ None → NoneUpTo ids (i + 1)
      none_goes here =
          let n : i + 1 ≡ suc i = omega arith in
          let front : refs_of (take (i + 1) ids) ≡ refs_of (take i ids) ++ refs_of (id ∷ []) = ap (λ n. refs_of (take n ids)) n ∙ ap refs_of (take_next ids i id at) ∙ refs_append (take i ids) (id ∷ []) in
          ap (first_dangling entries) front ∙ none_then (refs_of (take i ids)) (refs_of (id ∷ [])) none ∙ none_then (tree_references (tree nodes id)) [] here

      pub found_here : (node : ℕ) → Finds nodes (Dangles node) (first_dangling entries (tree_references (tree nodes id))) → Finds nodes (Dangles node) (first_dangling entries (refs_of ids))
      found_here node finds =
          let whole : refs_of ids ≡ refs_of (take i ids) ++ refs_of (id ∷ drop (suc i) ids) = ap refs_of (split_at ids i id at) ∙ refs_append (take i ids) (id ∷ drop (suc i) ids) in
          subst (λ rs. Finds nodes (Dangles node) (first_dangling entries rs)) (sym whole)
          (finds_later (refs_of (take i ids)) (refs_of (id ∷ drop (suc i) ids)) (Dangles node) none
          (finds_first (tree_references (tree nodes id)) (refs_of (drop (suc i) ids)) node finds))

    take_whole : (xs : List ℕ) → take (length xs) xs ≡ xs
    take_whole [] = refl
    take_whole (x ∷ xs) = ap (λ ys. x ∷ ys) (take_whole xs)

    pub none_at_end : (ids : List ℕ) (i : ℕ) → i ≡ length ids → NoneUpTo ids i → first_dangling entries (refs_of ids) ≡ None
    none_at_end ids i last none = ap (λ l. first_dangling entries (refs_of l)) (sym (ap (λ n. take n ids) last ∙ take_whole ids)) ∙ none
