-- What holds of the trees of nodes.
use Rattle.std.proofs.Common.{◌≡◌, ℕ, ◌+◌, ◌<◌, List, [], ◌∷◌, ◌++◌, length, Some, refl, ap, sym, ◌∙◌, arith, suc, zero}
use Rattle.std.proofs.Common.{length-append}
use Rattle.std.specs.Prelude.{slice_get}
use Rattle.std.specs.List.{AllByRecursion}
use Rattle.std.proofs.Math.ListN.{get_or-append}
use Rattle.std.proofs.Math.Seq.{get_or-append_seam}
use Rattle.code_tables.specs.declared.predeclared.Basic.TheVariants.{Bool as bool_type}
use Rattle.type_terms.specs.declared.descriptors.Node.{Node}
use Rattle.type_terms.specs.Shapes.{retype}
use Rattle.type_terms.specs.Trees.{Tree, predeclared, tree_of}
use Rattle.type_terms.specs.NodeShapes.{node_shape, children}
use Rattle.type_terms.specs.Denotation.{tree_at, node_tree, trees_after, tree}
use Rattle.type_terms.specs.Arenas.{IsNode, AllBelow, IsArena}
use Rattle.type_terms.specs.ShapeLaws.{retype_agrees}
use Rattle.type_terms.specs.ShapesTold.{retype_told}
use Rattle.type_terms.specs.TreeLevels.{level_told}
use Rattle.type_terms.specs.NodesBack.{node_told}

after_append : (below : List Tree) (xs ys : List Node)
    → trees_after below (xs ++ ys) ≡ trees_after (trees_after below xs) ys
after_append below [] ys = refl
after_append below (x ∷ xs) ys = after_append (below ++ node_tree below x ∷ []) xs ys

pub after_length : (below : List Tree) (xs : List Node) → length (trees_after below xs) ≡ length below + length xs
after_length below [] = omega arith
after_length below (x ∷ xs) = omega
    (arith, after_length (below ++ node_tree below x ∷ []) xs, length-append below (node_tree below x ∷ []))

after_keeps : (below : List Tree) (xs : List Node) (n : ℕ) → n < length below
    → tree_at (trees_after below xs) n ≡ tree_at below n
after_keeps below [] n h = refl
after_keeps below (x ∷ xs) n h =
    let longer : n
    < length (below ++ node_tree below x ∷ []) = omega (arith, length-append below (node_tree below x ∷ [])) in
    after_keeps (below ++ node_tree below x ∷ []) xs n longer ∙ get_or-append below (node_tree below x ∷ [])
    (predeclared bool_type) n h

-- a node keeps its tree as nodes are added
pub tree_stays : (nodes more : List Node) (n : ℕ) → n < length nodes → tree (nodes ++ more) n ≡ tree nodes n
unfolding tree
tree_stays nodes more n h =
    let within : n < length (trees_after [] nodes) = omega (arith, after_length [] nodes) in
    ap (λ trees. tree_at trees n) (after_append [] nodes more) ∙ after_keeps (trees_after [] nodes) more n within

-- a new node's tree is made of the trees of the nodes before it
pub tree_added : (nodes : List Node) (node : Node)
    → tree (nodes ++ node ∷ []) (length nodes) ≡ tree_of (retype (tree nodes) (node_shape node))
unfolding tree
tree_added nodes node =
    let below = trees_after [] nodes in
    let at : length below ≡ length nodes = omega (arith, after_length [] nodes) in
    ap (λ trees. tree_at trees (length nodes)) (after_append [] nodes (node ∷ []))
    ∙ ap (λ n. tree_at (below ++ node_tree below node ∷ []) n) (sym at)
    ∙ get_or-append_seam below (node_tree below node) [] (predeclared bool_type)

-- where a node stands, the list is cut there
cut_at : (xs : List Node) (n : ℕ) (x : Node) → slice_get xs n ≡ Some x → (front : List Node) × (back : List Node)
    × (xs ≡ (front ++ x ∷ []) ++ back) × (length front ≡ n)
cut_at [] n x e = cc
cut_at (y ∷ ys) zero x e = let same : y ≡ x = (cc) in ([], ys, ap (λ a. a ∷ ys) same, refl)
cut_at (y ∷ ys) (suc n) x e = let rest = cut_at ys n x e in (
  y
      ∷ rest.0,
  rest.1,
  ap (λ zs. y ∷ zs) rest.2,
  omega (arith, rest.3),
)

pub all_weaker : (P Q : ℕ → Type 0) → ((c : ℕ) → P c → Q c) → (cs : List ℕ) → AllByRecursion P cs → AllByRecursion Q cs
all_weaker P Q step [] all = tt
all_weaker P Q step (c ∷ cs) all = (step c all.0, all_weaker P Q step cs all.1)

-- One level: a node whose children stand before it denotes its shape, with the trees of its children.
pub tree_unfolds : (nodes : List Node) (n : ℕ) (node : Node) → IsNode nodes n node → AllBelow n (children node)
    → tree nodes n ≡ tree_of (retype (tree nodes) (node_shape node))
tree_unfolds nodes n node is falls =
    let cut = cut_at nodes n node is in
    let front = cut.0 in
    let back = cut.1 in
    let whole : nodes ≡ (front ++ node ∷ []) ++ back = cut.2 in
    let size : length front ≡ n = cut.3 in
    let inner : n < length (front ++ node ∷ []) = omega (arith, length-append front (node ∷ [])) in
    let stays : (c : ℕ) → c < n → tree nodes c ≡ tree front c =
    λ c below.
    let in_front : c < length front = omega arith in
    let in_both : c < length (front ++ node ∷ []) = omega arith in
    ap (λ all. tree all c) whole ∙ tree_stays (front ++ node ∷ []) back c in_both ∙ tree_stays front (node ∷ []) c
    in_front
    in
    let here : tree nodes n
    ≡ tree (front ++ node ∷ []) n = ap (λ all. tree all n) whole ∙ tree_stays (front ++ node ∷ []) back n inner in
    let there : tree (front ++ node ∷ []) n
    ≡ tree_of (retype (tree front) (node_shape node)) = ap (λ k. tree (front ++ node ∷ []) k) (sym size) ∙
    tree_added front node in
    let agree : AllByRecursion (λ c. tree front c ≡ tree nodes c) (children node) =
    all_weaker (λ c. c < n) (λ c. tree front c ≡ tree nodes c) (λ c below. sym (stays c below)) (children node) falls
    in
    here ∙ there ∙ ap tree_of (retype_agrees (tree front) (tree nodes) _ _ _ (node_shape node) agree)

node_there : (nodes : List Node) (n : ℕ) → n < length nodes → (node : Node) × IsNode nodes n node
node_there [] n h = absurd (omega arith)
node_there (x ∷ xs) zero h = (x, refl)
node_there (x ∷ xs) (suc n) h = node_there xs n (omega arith)

-- In an arena two numbers denote one tree only where they are equal.
module _ (nodes : List Node) (arena : IsArena nodes) where
  unfolds : (n : ℕ) (node : Node) → IsNode nodes n node → tree nodes n ≡ tree_of (retype (tree nodes) (node_shape node))
  unfolds n node is = tree_unfolds nodes n node is (arena.falls n node is)

  told_below : (bound m n : ℕ) → m < bound → m < length nodes → n < length nodes → tree nodes m ≡ tree nodes n → m ≡ n
  told_below zero m n below here there e = absurd (omega arith)
  told_below (suc bound) m n below here there e =
      let left = node_there nodes m here in
      let right = node_there nodes n there in
      let levels : retype (tree nodes) (node_shape left.0) ≡ retype (tree nodes) (node_shape right.0) =
      level_told _ _ (sym (unfolds m left.0 left.1) ∙ e ∙ unfolds n right.0 right.1)
      in
      let tells : (x y : ℕ) → x < m → y < n → tree nodes x ≡ tree nodes y → x ≡ y =
      λ x y less fewer same. told_below bound x y (omega arith) (omega arith) (omega arith) same
      in
      let shapes : node_shape left.0 ≡ node_shape right.0 =
      retype_told (tree nodes) (λ c. c < m) (λ c. c < n) tells _ _ _ (node_shape left.0) (node_shape right.0)
      (arena.falls m left.0 left.1)
      (arena.falls n right.0 right.1)
      levels
      in
      let same : left.0 ≡ right.0 = node_told left.0 right.0 shapes in
      arena.apart m n left.0 left.1 (right.1 ∙ ap Some (sym same))

  pub tree_told : (m n : ℕ) → m < length nodes → n < length nodes → tree nodes m ≡ tree nodes n → m ≡ n
  tree_told m n here there e = told_below (suc m) m n (omega arith) here there e

  -- a number that denotes what a node would denote is that node's
  pub node_told_by_tree : (n : ℕ) (node : Node) → n < length nodes → AllBelow (length nodes) (children node)
      → tree nodes n ≡ tree_of (retype (tree nodes) (node_shape node)) → IsNode nodes n node
  node_told_by_tree n node here below e =
      let left = node_there nodes n here in
      let levels : retype (tree nodes) (node_shape left.0) ≡ retype (tree nodes) (node_shape node) =
      level_told _ _ (sym (unfolds n left.0 left.1) ∙ e)
      in
      let tells : (x y : ℕ) → x < n → y < length nodes → tree nodes x ≡ tree nodes y → x ≡ y =
      λ x y less within same. tree_told x y (omega arith) within same
      in
      let shapes : node_shape left.0 ≡ node_shape node =
      retype_told (tree nodes) (λ c. c < n) (λ c. c < length nodes) tells _ _ _ (node_shape left.0) (node_shape node)
      (arena.falls n left.0 left.1) below levels
      in
      left.1 ∙ ap Some (node_told left.0 node shapes)
