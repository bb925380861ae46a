-- What finishing a node does to the numbers: what finishing its type does.
use Rattle.std.proofs.Common.{◌≡◌, ℕ, ◌<◌, Bool, true, false, cond, ◌||◌, List, [], ◌∷◌, ◌++◌, length, Option, Some, None, refl, ap, sym, subst, ◌∙◌, true≢false, ◌⊎◌, inl, inr}
use Rattle.std.specs.Prelude.{nat_eq, if◌then◌else◌}
use Rattle.std.specs.List.{list_any, Contains, position_or_len}
use Rattle.std.specs.Option.{is_some}
use Rattle.std.specs.Map.{lookup}
use Rattle.std.proofs.lemmas.List.{map-append}
use Rattle.std.proofs.lemmas.List.Elements.{Contains-push_cases}
use Rattle.type_terms.specs.declared.descriptors.Node.{Node}
use Rattle.type_terms.specs.declared.descriptors.Node.TheVariants.{Predeclared}
use Rattle.go_values.specs.declared.positions.Pos.{Pos}
use Rattle.type_terms.specs.Shapes.{retype}
use Rattle.type_terms.specs.Trees.{Text, Tree, tree_of}
use Rattle.type_terms.specs.TreeLevels.{level_of-tree_of}
use Rattle.type_terms.specs.TreeEquality.{same_text}
use Rattle.type_terms.specs.NodeShapes.{node_shape}
use Rattle.type_terms.specs.Arenas.{IsArena}
use Rattle.type_terms.specs.Denotation.{tree}
use Rattle.decl_text.specs.TypeText.{type_text}
use Rattle.decl_text.specs.Numbers.{Numbers, goes_by_name, is_settled, reference, line_of, finish}
use Rattle.decl_text.specs.NodeNumbers.{NodeNumbers, numbered_at, AreThere, node_reference, is_name}
use Rattle.decl_text.specs.PieceText.{node_line}
use Rattle.decl_text.proofs.RetypeLemmas.{retype_twice}
use Rattle.decl_text.proofs.FinishLemmas.{finish_new}
use Rattle.decl_text.proofs.NodeNumberLemmas.{number_at}

name_of_node : (f : ℕ → Tree) (node : Node) → goes_by_name (tree_of (retype f (node_shape node))) ≡ is_name node
name_of_node f (Predeclared basic) = refl
name_of_node f _ = refl

pub settled_at : (nodes : List Node) → IsArena nodes → (numbers : NodeNumbers) → AreThere nodes numbers → (id : ℕ) → id < length nodes → (node : Node) → tree nodes id ≡ tree_of (retype (tree nodes) (node_shape node))
    → is_settled (numbered_at nodes numbers) (tree nodes id) ≡ (is_name node || is_some (lookup (nat_eq id) numbers))
settled_at nodes arena numbers there id below node denotes =
    let name : goes_by_name (tree nodes id) ≡ is_name node = ap goes_by_name denotes ∙ name_of_node (tree nodes) node in
    let number = number_at nodes arena numbers there id below in
    λ i. name i || is_some (number i)

-- the line of a node
pub line_at : (nodes : List Node) (numbers : NodeNumbers) (id : ℕ) (node : Node) → tree nodes id ≡ tree_of (retype (tree nodes) (node_shape node))
    → line_of (numbered_at nodes numbers) (tree nodes id) ≡ node_line (node_reference nodes numbers) node
line_at nodes numbers id node denotes =
    let refer = reference (numbered_at nodes numbers) in
    ap (line_of (numbered_at nodes numbers)) denotes
    ∙ ap (λ level. type_text (retype refer level)) (level_of-tree_of (retype (tree nodes) (node_shape node)))
    ∙ ap type_text (retype_twice (tree nodes) refer Pos Text Text (node_shape node))

pub none_from_false : (a : Bool) (number : Option ℕ) → (a || is_some number) ≡ false → number ≡ None
none_from_false true number h = absurd (true≢false h)
none_from_false false None h = refl
none_from_false false (Some n) h = absurd (true≢false h)

-- a node was given the number of its line
pub given : (nodes : List Node) (old new : NodeNumbers) (lines after : List Text) (id number : ℕ) (line : Text)
    → is_settled (numbered_at nodes old) (tree nodes id) ≡ false → line ≡ line_of (numbered_at nodes old) (tree nodes id)
    → number ≡ position_or_len (same_text line) lines → after ≡ (if list_any (same_text line) lines then lines else lines ++ line ∷ [])
    → new ≡ old ++ (id, number) ∷ []
    → record { types = numbered_at nodes new; lines = after } ≡ finish (record { types = numbered_at nodes old; lines = lines }) (tree nodes id)
given nodes old new lines after id number line unsettled is place keys entries =
    let before : Numbers = record { types = numbered_at nodes old; lines = lines } in
    let types : numbered_at nodes new ≡ numbered_at nodes old ++ (tree nodes id, position_or_len (same_text line) lines) ∷ [] =
    ap (numbered_at nodes) entries ∙ map-append (λ (entry : ℕ × ℕ). (tree nodes entry.0, entry.1)) old ((id, number) ∷ []) ∙ ap (λ n. numbered_at nodes old ++ (tree nodes id, n) ∷ []) place
    in
    (λ i. record { types = types i; lines = keys i })
    ∙ ap (λ text. record { types = numbered_at nodes old ++ (tree nodes id, position_or_len (same_text text) lines) ∷ []; lines = cond (list_any (same_text text) lines) lines (lines ++ text ∷ []) }) is
    ∙ sym (finish_new before (tree nodes id) unsettled)

pub there_more : (nodes : List Node) (old new : NodeNumbers) (id number : ℕ) → AreThere nodes old → id < length nodes → new ≡ old ++ (id, number) ∷ [] → AreThere nodes new
there_more nodes old new id number there below is entry held = by (Contains-push_cases old (id, number) entry (subst (λ (xs : NodeNumbers). Contains xs entry) is held))
  where
    by : Contains old entry ⊎ ((id, number) ≡ entry) → entry.0 < length nodes
    by (inl h) = there entry h
    by (inr e) = subst (λ (x : ℕ × ℕ). x.0 < length nodes) e below
