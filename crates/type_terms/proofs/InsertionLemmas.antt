-- What an insertion does to the nodes of an arena.
use Rattle.std.proofs.Common.{◌≡◌, ℕ, ◌<◌, ◌≤◌, Bool, true, false, ◌||◌, true≢false, List, [], ◌∷◌, ◌++◌, length, Some, refl, ap, sym, ◌∙◌, subst, arith, suc, zero, length-append}
use Rattle.std.proofs.Common.{inl, inr, ◌⊎◌}
use Rattle.std.proofs.Math.Nat.{eq-or-lt_of_le}
use Rattle.std.specs.Prelude.{if◌then◌else◌}
use Rattle.std.specs.List.{list_any, position}
use Rattle.std.proofs.lemmas.List.Quantifiers.{position-Some}
use Rattle.std.proofs.lemmas.Option.{slice_get-get_or}
use Rattle.std.proofs.lemmas.List.{append-nil}
use Rattle.indexmap.specs.IndexSet.{insert_key}
use Rattle.type_terms.specs.declared.descriptors.Node.{Node}
use Rattle.type_terms.specs.contracts.descriptors.NodePartialEq.TheImpl as node_eq
use Rattle.type_terms.specs.contracts.descriptors.NodeEq.TheImpl.Laws.{laws-law}
use Rattle.type_terms.specs.Shapes.{retype}
use Rattle.type_terms.specs.Trees.{tree_of, level_of}
use Rattle.type_terms.specs.Parts.{MeetsBase}
use Rattle.type_terms.specs.NodeShapes.{node_shape, children}
use Rattle.type_terms.specs.Denotation.{tree}
use Rattle.type_terms.specs.Arenas.{IsNode, IsNew, AllBelow, IsArena, Inserted}
use Rattle.type_terms.specs.TreeLevels.{level_of-tree_of}
use Rattle.type_terms.specs.Denoted.{tree_stays, tree_added, tree_unfolds}
use Rattle.type_terms.proofs.NodeEqualityLemmas.{exact_node}

abbrev same : Node → Node → Bool
same = node_eq.ghosts.eq

pub found_from_node : (nodes : List Node) (node : Node) (n : ℕ) → IsNode nodes n node → list_any (same node) nodes ≡ true
found_from_node [] node n is = (cc)
found_from_node (x ∷ xs) node zero is =
    let e : x ≡ node = (cc) in
    let r : same node x ≡ true = subst (λ y. same node y ≡ true) (sym e) (laws-law.refl node) in
    ap (λ b. b || list_any (same node) xs) r
found_from_node (x ∷ xs) node (suc n) is = by (same node x) (found_from_node xs node n is)
  where
    by : (b : Bool) → list_any (same node) xs ≡ true → (b || list_any (same node) xs) ≡ true
    by true e = refl
    by false e = e

pub node_from_found : (nodes : List Node) (node : Node) → list_any (same node) nodes ≡ true → (n : ℕ) × IsNode nodes n node
node_from_found [] node h = (cc)
node_from_found (x ∷ xs) node h = by (same node x) refl h (node_from_found xs node)
  where
    by : (b : Bool) → same node x ≡ b → (b || list_any (same node) xs) ≡ true → (list_any (same node) xs ≡ true → (n : ℕ) × IsNode xs n node) → (n : ℕ) × IsNode (x ∷ xs) n node
    by true e h rest = (0, ap Some (sym (exact_node node x e)))
    by false e h rest = let later = rest h in (suc later.0, later.1)

pub new_from_missing : (nodes : List Node) (node : Node) → list_any (same node) nodes ≡ false → IsNew nodes node
new_from_missing nodes node h n is = true≢false (sym (found_from_node nodes node n is) ∙ h)

pub missing_from_new : (nodes : List Node) (node : Node) → IsNew nodes node → list_any (same node) nodes ≡ false
missing_from_new nodes node new = by (list_any (same node) nodes) refl
  where
    by : (b : Bool) → list_any (same node) nodes ≡ b → b ≡ false
    by true e = let there = node_from_found nodes node e in absurd (new there.0 there.1)
    by false e = refl

-- a node of the longer list is one of the shorter, or the new one
at_end : (nodes : List Node) (new : Node) (n : ℕ) (node : Node) → IsNode (nodes ++ new ∷ []) n node → IsNode nodes n node ⊎ ((n ≡ length nodes) × (new ≡ node))
at_end [] new zero node is = inr (refl, (cc))
at_end [] new (suc n) node is = (cc)
at_end (x ∷ xs) new zero node is = inl is
at_end (x ∷ xs) new (suc n) node is = by (at_end xs new n node is)
  where
    by : IsNode xs n node ⊎ ((n ≡ length xs) × (new ≡ node)) → IsNode xs n node ⊎ ((suc n ≡ length (x ∷ xs)) × (new ≡ node))
    by (inl h) = inl h
    by (inr h) = inr (omega (arith, h.0), h.1)

last_node : (nodes : List Node) (new : Node) → IsNode (nodes ++ new ∷ []) (length nodes) new
last_node [] new = refl
last_node (x ∷ xs) new = last_node xs new

-- The arena stays one when a new node is put at its end.
module _ (nodes : List Node) (arena : IsArena nodes) (new : Node) (falls : AllBelow (length nodes) (children new))
    (generic : MeetsBase (retype (tree nodes) (node_shape new))) (fresh : IsNew nodes new) where
  abbrev after : List Node
  after = nodes ++ new ∷ []

  falls_after : (n : ℕ) (node : Node) → IsNode after n node → AllBelow n (children node)
  falls_after n node is = by (at_end nodes new n node is)
    where
      by : IsNode nodes n node ⊎ ((n ≡ length nodes) × (new ≡ node)) → AllBelow n (children node)
      by (inl h) = arena.falls n node h
      by (inr h) = subst (λ k. AllBelow k (children node)) (sym h.0) (subst (λ x. AllBelow (length nodes) (children x)) h.1 falls)

  apart_after : (m n : ℕ) (node : Node) → IsNode after m node → IsNode after n node → m ≡ n
  apart_after m n node left right = by (at_end nodes new m node left) (at_end nodes new n node right)
    where
      by : IsNode nodes m node ⊎ ((m ≡ length nodes) × (new ≡ node)) → IsNode nodes n node ⊎ ((n ≡ length nodes) × (new ≡ node)) → m ≡ n
      by (inl a) (inl b) = arena.apart m n node a b
      by (inl a) (inr b) = absurd (fresh m (a ∙ ap Some (sym b.1)))
      by (inr a) (inl b) = absurd (fresh n (b ∙ ap Some (sym a.1)))
      by (inr a) (inr b) = a.0 ∙ sym b.0

  added_tree : tree after (length nodes) ≡ tree_of (retype (tree nodes) (node_shape new))
  added_tree = tree_added nodes new

  generic_after : (n : ℕ) → n < length after → MeetsBase (level_of (tree after n))
  generic_after n h = by (eq-or-lt_of_le (let near : n ≤ length nodes = omega (arith, length-append nodes (new ∷ [])) in near))
    where
      by : (n ≡ length nodes) ⊎ (n < length nodes) → MeetsBase (level_of (tree after n))
      by (inr below) = subst (λ t. MeetsBase (level_of t)) (sym (tree_stays nodes (new ∷ []) n below)) (arena.generic n below)
      by (inl at) =
          let level : level_of (tree after n) ≡ retype (tree nodes) (node_shape new) =
          ap (λ k. level_of (tree after k)) at ∙ ap level_of added_tree ∙ level_of-tree_of (retype (tree nodes) (node_shape new))
          in
          subst MeetsBase (sym level) generic

  pub arena_after : IsArena after
  arena_after = record { falls = falls_after; apart = apart_after; generic = generic_after }

pub inserted : (nodes after : List Node) (place : ℕ) (node stored : Node) → IsArena nodes → AllBelow (length nodes) (children node) → MeetsBase (retype (tree nodes) (node_shape node))
    → after ≡ insert_key same nodes node → IsNode after place stored → same node stored ≡ true → Inserted nodes after place node
inserted nodes after place node stored arena falls generic keys stands equal = by (list_any (same node) nodes) refl
  where
    here : IsNode after place node
    here = stands ∙ ap Some (sym (exact_node node stored equal))

    by : (b : Bool) → list_any (same node) nodes ≡ b → Inserted nodes after place node
    by true e =
        let stays : after ≡ nodes = keys ∙ ap (λ b. if b then nodes else nodes ++ node ∷ []) e in
        let there = node_from_found nodes node e in
        let old : IsNode nodes place node = subst (λ l. IsNode l place node) stays here in
        record {
          stands = here;
          arena = subst IsArena (sym stays) arena;
          more = [];
          is = stays ∙ sym (append-nil nodes);
          present = λ n is. (arena.apart place n node old is, stays);
          fresh = λ new. absurd (new there.0 there.1);
          last = λ number from below. absurd (omega (arith, ap length stays));
          denotes = ap (λ l. tree l place) stays ∙ tree_unfolds nodes place node old (arena.falls place node old);
        }
    by false e =
        let grows : after ≡ nodes ++ node ∷ [] = keys ∙ ap (λ b. if b then nodes else nodes ++ node ∷ []) e in
        let new : IsNew nodes node = new_from_missing nodes node e in
        let whole = arena_after nodes arena node falls generic new in
        let last : IsNode (nodes ++ node ∷ []) place node = subst (λ l. IsNode l place node) grows here in
        let at : place ≡ length nodes = whole.apart place (length nodes) node last (last_node nodes node) in
        record {
          stands = here;
          arena = subst IsArena (sym grows) whole;
          more = node ∷ [];
          is = grows;
          present = λ n is. absurd (new n is);
          fresh = λ _. (at, grows);
          last = λ number from below. omega (arith, at, ap length grows, length-append nodes (node ∷ []));
          denotes = ap (λ l. tree l place) grows ∙ ap (λ k. tree (nodes ++ node ∷ []) k) at ∙ tree_added nodes node;
        }

pub node_at_position : (nodes : List Node) (node : Node) (place : ℕ) → position (same node) nodes ≡ Some place → IsNode nodes place node
node_at_position nodes node place e =
    let found = position-Some (same node) nodes place node e in
    slice_get-get_or nodes place node found.0 ∙ ap Some (sym (exact_node node _ found.1))
