-- A replacement, step by step.
use Rattle.std.proofs.Common.{◌≡◌, ℕ, ◌<◌, zero, suc, List, [], ◌∷◌, ◌++◌, length, slice_get, Some, None, refl, sym, subst, inl, inr, arith}
use Rattle.std.specs.List.{Contains, AllByRecursion}
use Rattle.std.proofs.lemmas.List.Elements.{Contains-append_left, Contains-append_right, Contains-append_cases, Contains-get_or}
use Rattle.go_values.specs.declared.qualified.QName.{QName}
use Rattle.type_terms.specs.declared.descriptors.Node.{Node}
use Rattle.type_terms.specs.Additions.{AddsOnly, Outgrows}
use Rattle.type_terms.specs.AdditionLaws.{adds_none, adds_more, additions_join, outgrown_by_more, want_of_nodes_joins}
use Rattle.type_terms.specs.Arenas.{Contents, IsNode, Extends}
use Rattle.type_terms.specs.Denotation.{tree}
use Rattle.type_terms.specs.Extensions.{extends_itself, extends_again, extends_tree, extends_longer}
use Rattle.type_terms.specs.NodeShapes.{children}
use Rattle.type_terms.specs.Trees.{Tree}
use Rattle.replacement.specs.Substitution.{replaced}
use Rattle.replacement.specs.Moves.{Moves, made_for, IsMade, IsReplaced, AreMoves, AreFalling, AreNodesOf, IsMoving}
use Rattle.replacement.proofs.ListLemmas.{all_if, contains_none, contains_one, place_of}
use Rattle.replacement.proofs.MoveLemmas.{covers_replaced}

at_front : {X : Type 0} (xs ys : List X) (i : ℕ) (x : X) → slice_get xs i ≡ Some x → slice_get (xs ++ ys) i ≡ Some x
at_front [] ys i x h = absurd cc
at_front (z ∷ zs) ys zero x h = h
at_front (z ∷ zs) ys (suc i) x h = at_front zs ys i x h

at_end : {X : Type 0} (xs : List X) (x : X) → slice_get (xs ++ x ∷ []) (length xs) ≡ Some x
at_end [] x = refl
at_end (z ∷ zs) x = at_end zs x

front_falls : (left : List ℕ) (id : ℕ) → AreFalling (left ++ id ∷ []) → AreFalling left
front_falls left id falls j k a b at_j at_k less = falls j k a b (at_front left (id ∷ []) j a at_j) (at_front left (id ∷ []) k b at_k) less

-- the last is less than those before it
last_less : (left : List ℕ) (id other : ℕ) → AreFalling (left ++ id ∷ []) → Contains left other → id < other
last_less left id other falls held =
    let place = place_of left other held in
    falls place.0 (length left) other id (at_front left (id ∷ []) place.0 other place.1) (at_end left id) place.2

module _ (first : Contents) (put : QName → Tree) (start : ℕ) (met : List ℕ) (nodes_of : AreNodesOf first.nodes start met) where
  pub moving_begins : (moves : Moves) → ((id : ℕ) → made_for moves id ≡ None) → IsMoving first first put start met met moves
  moving_begins moves none = record {
    extends = extends_itself first;
    adds = adds_none (replaced put (tree first.nodes start) ∷ []) first;
    denotes = λ id made e. let empty = none id in absurd cc;
    falls = nodes_of.falls;
    inside = λ id held. held;
    known = λ id held. inl held;
  }

  module _ (now : Contents) (left rest : List ℕ) (id : ℕ) (moves : Moves) (was : IsMoving first now put start met left moves) (is : left ≡ rest ++ id ∷ []) where
    falling : AreFalling (rest ++ id ∷ [])
    falling = subst AreFalling is was.falls

    met_id : Contains met id
    met_id = was.inside id (subst (λ l. Contains l id) (sym is) (Contains-append_right rest (id ∷ []) id (Contains-get_or (id ∷ []) 0 id (omega arith))))

    pub next_there : id < length first.nodes
    next_there = (nodes_of.within id (inl met_id)).0

    pub next_within : id < length now.nodes
    next_within = let below = next_there in let longer = extends_longer first now was.extends in omega arith

    made_child : (child : ℕ) → child < id → Contains met child → IsMade moves child
    made_child child less held = elim (was.known child held) [
      | inr made ↦ made
      | inl waits ↦ elim (Contains-append_cases rest (id ∷ []) child (subst (λ l. Contains l child) is waits)) [
        | inl before ↦ let more = last_less rest id child falling before in absurd (omega arith)
        | inr last ↦ let same = contains_one child id last in absurd (omega arith)
      ]
    ]

    node_first : (node : Node) → IsNode now.nodes id node → IsNode first.nodes id node
    node_first node stands =
        let below = next_there in
        front_node first.nodes was.extends.more now.nodes was.extends.nodes id node below stands
      where
        front_node : (old more new : List Node) → new ≡ old ++ more → (n : ℕ) (node : Node) → n < length old → slice_get new n ≡ Some node → slice_get old n ≡ Some node
        front_node old more new same n node below stands = in_front old more n node below (subst (λ l. slice_get l n ≡ Some node) same stands)
          where
            in_front : (xs ys : List Node) (i : ℕ) (x : Node) → i < length xs → slice_get (xs ++ ys) i ≡ Some x → slice_get xs i ≡ Some x
            in_front [] ys i x below h = absurd (omega arith)
            in_front (z ∷ zs) ys zero x below h = h
            in_front (z ∷ zs) ys (suc i) x below h = in_front zs ys i x (omega arith) h

    pub children_are_made : (node : Node) → IsNode now.nodes id node → AllByRecursion (IsMade moves) (children node)
    children_are_made node stands =
        let own = node_first node stands in
        all_if (IsMade moves) (children node) (λ child held.
        made_child child (nodes_of.lower id child node met_id own held)
        (elim (nodes_of.closed id child node met_id own held) [ inl one ↦ one | inr none ↦ absurd (contains_none child none) ]))

    -- what the type of this node, replaced, takes is taken for the whole type
    tree_first : tree now.nodes id ≡ tree first.nodes id
    tree_first = extends_tree first now was.extends id next_there

    pub adds_whole : (new : Contents) → AddsOnly (replaced put (tree now.nodes id) ∷ []) now new → AddsOnly (replaced put (tree first.nodes start) ∷ []) now new
    adds_whole new adds =
        adds_more (replaced put (tree first.nodes start) ∷ []) (replaced put (tree first.nodes id) ∷ []) now new
        (covers_replaced put (tree first.nodes start) (tree first.nodes id) (nodes_of.within id (inl met_id)).1)
        (subst (λ t. AddsOnly (replaced put t ∷ []) now new) tree_first adds)

    pub outgrown_whole : Outgrows now (replaced put (tree now.nodes id) ∷ []) → Outgrows first (replaced put (tree first.nodes start) ∷ [])
    outgrown_whole outgrows =
        want_of_nodes_joins first now (replaced put (tree first.nodes start) ∷ []) was.extends was.adds
        (outgrown_by_more now (replaced put (tree first.nodes start) ∷ []) (replaced put (tree first.nodes id) ∷ [])
        (covers_replaced put (tree first.nodes start) (tree first.nodes id) (nodes_of.within id (inl met_id)).1)
        (subst (λ t. Outgrows now (replaced put t ∷ [])) tree_first outgrows))

    pub moving_goes : (new : Contents) (after : Moves) → Extends now new → AddsOnly (replaced put (tree now.nodes id) ∷ []) now new → AreMoves new.nodes put after
        → ((other : ℕ) → IsMade moves other → IsMade after other) → IsMade after id → IsMoving first new put start met rest after
    moving_goes new after grown adds are kept made = record {
      extends = extends_again first now new was.extends grown;
      adds = additions_join first now new (replaced put (tree first.nodes start) ∷ []) was.adds grown (adds_whole new adds);
      denotes = are;
      falls = front_falls rest id falling;
      inside = λ other held. was.inside other (subst (λ l. Contains l other) (sym is) (Contains-append_left rest (id ∷ []) other held));
      known = λ other held. elim (was.known other held) [
        | inr old ↦ inr (kept other old)
        | inl waits ↦ elim (Contains-append_cases rest (id ∷ []) other (subst (λ l. Contains l other) is waits)) [
          | inl before ↦ inl before
          | inr last ↦ inr (subst (IsMade after) (sym (contains_one other id last)) made)
        ]
      ];
    }

  -- in the end one was made for the type
  pub made_at_end : (now : Contents) (left : List ℕ) (moves : Moves) → IsMoving first now put start met left moves → left ≡ [] → (made : ℕ) × (made_for moves start ≡ Some made) × IsReplaced now.nodes put start made
  made_at_end now left moves was empty =
      let held : Contains met start = elim nodes_of.begins [ inl one ↦ one | inr none ↦ absurd (contains_none start none) ] in
      elim (was.known start held) [
        | inl waits ↦ absurd (contains_none start (subst (λ l. Contains l start) empty waits))
        | inr made ↦ (made.0, made.1, was.denotes start made.0 made.1)
      ]

  pub start_there : start < length first.nodes
  start_there =
      let held : Contains met start = elim nodes_of.begins [ inl one ↦ one | inr none ↦ absurd (contains_none start none) ] in
      (nodes_of.within start (inl held)).0
