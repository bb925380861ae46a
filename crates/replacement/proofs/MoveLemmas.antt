-- A node over what was made for its children denotes its type, replaced.
use Rattle.std.proofs.Common.{◌≡◌, ℕ, ◌<◌, Bool, true, false, cond, List, [], ◌∷◌, length, map, Some, refl, ap, sym, subst, ◌∙◌, arith}
use Rattle.std.specs.Prelude.{nat_eq}
use Rattle.std.specs.List.{AllByRecursion, Contains}
use Rattle.std.specs.Option.{unwrap_or}
use Rattle.std.proofs.lemmas.Bool.{eqb-true}
use Rattle.std.proofs.lemmas.List.Elements.{Contains-get_or}
use Rattle.std.proofs.lemmas.List.{length-map}
use Rattle.std.proofs.lemmas.Cmp.{nat_eq_equiv}
use Rattle.go_values.specs.declared.positions.Pos.{Pos}
use Rattle.go_values.specs.declared.qualified.QName.{QName}
use Rattle.type_terms.specs.declared.literals.Sig.{Sig}
use Rattle.type_terms.specs.declared.literals.IMethod.{IMethod}
use Rattle.type_terms.specs.declared.descriptors.Node.{Node}
use Rattle.type_terms.specs.declared.descriptors.Node.TheVariants.{Param, FuncOf, StructOf, Iface, Instance, Union}
use Rattle.type_terms.specs.Additions.{Covers}
use Rattle.type_terms.specs.AdditionLaws.{covers_each}
use Rattle.type_terms.specs.Arenas.{Contents, AllBelow, Extends}
use Rattle.type_terms.specs.Denotation.{tree}
use Rattle.type_terms.specs.Extensions.{extends_tree, extends_longer}
use Rattle.type_terms.specs.NodeShapes.{node_shape, param_shape, sig_shape, field_shape, method_shape, term_shape, children}
use Rattle.type_terms.specs.Parts.{parts, Within, itself, inside, IsGeneric, MeetsBase}
use Rattle.type_terms.specs.Replaced.{all_right}
use Rattle.type_terms.specs.Shapes.{parameter_of, func_of, struct_of, interface_of, union_of, param_map, sig_map, field_map, method_map, term_map, shape_types, retype}
use Rattle.type_terms.specs.ShapeLaws.{retype_agrees, shape_types_map}
use Rattle.type_terms.specs.TreeLevels.{level_of-tree_of}
use Rattle.type_terms.specs.Trees.{Text, Tree, named, alias, Level, level_of, tree_of}
use Rattle.replacement.specs.Substitution.{argument, replaced, level_replaced}
use Rattle.replacement.specs.Moves.{Moves, made_for, moved, param_moved, sig_moved, field_moved, method_moved, term_moved, node_moved, put_of, IsMade, IsReplaced, AreMoves, Notes}
use Rattle.replacement.proofs.ListLemmas.{all_mapped, all_weaker, map_agrees_on, contains_none, contains_one, contains_map}
use Rattle.replacement.proofs.RetypeLemmas.{retype_twice}
use Rattle.replacement.proofs.SubstitutionLemmas.{replaced_by_level}

swapped : {A B C D : Type 0} (f : A → B) (g : B → D) (h : A → C) (k : C → D) → ((x : A) → g (f x) ≡ k (h x)) → (xs : List A) → map g (map f xs) ≡ map k (map h xs)
swapped f g h k each [] = refl
swapped f g h k each (x ∷ xs) = λ i. each x i ∷ swapped f g h k each xs i

module _ (move : ℕ → ℕ) where
  sig_shape_moved : (sig : Sig) → sig_shape (sig_moved move sig) ≡ sig_map (λ (x : Pos). x) (λ (x : Text). x) (λ (x : Text). x) move (sig_shape sig)
  sig_shape_moved sig = λ i. record { params = swapped (param_moved move) param_shape param_shape (param_map (λ (x : Pos). x) (λ (x : Text). x) (λ (x : Text). x) move) (λ x. refl) sig.params i; results = swapped (param_moved move) param_shape param_shape (param_map (λ (x : Pos). x) (λ (x : Text). x) (λ (x : Text). x) move) (λ x. refl) sig.results i; variadic = sig.variadic }

  method_shape_moved : (x : IMethod) → method_shape (method_moved move x) ≡ method_map (λ (x : Pos). x) (λ (x : Text). x) (λ (x : Text). x) move (method_shape x)
  method_shape_moved x = λ i. record { origin = record { text = x.origin.text; path = x.origin.path }; pos = x.pos; name = x.name; sig = sig_shape_moved x.sig i }

  -- a node with its types moved has their shape
  pub node_shape_moved : (node : Node) → node_shape (node_moved move node) ≡ retype move (node_shape node)
  node_shape_moved (FuncOf home sig) = ap (func_of home) (sig_shape_moved sig)
  node_shape_moved (StructOf home inner) = ap (struct_of home) (swapped (field_moved move) field_shape field_shape (field_map (λ (x : Pos). x) (λ (x : Text). x) (λ (x : Text). x) move) (λ x. refl) inner)
  node_shape_moved (Iface home embedded inner) = ap (interface_of home (map move embedded)) (swapped (method_moved move) method_shape method_shape (method_map (λ (x : Pos). x) (λ (x : Text). x) (λ (x : Text). x) move) method_shape_moved inner)
  node_shape_moved (Union inner) = ap union_of (swapped (term_moved move) term_shape term_shape (term_map (λ (x : Pos). x) (λ (x : Text). x) (λ (x : Text). x) move) (λ x. refl) inner)
  node_shape_moved _ = refl

  pub children_moved : (node : Node) → children (node_moved move node) ≡ map move (children node)
  children_moved node = ap shape_types (node_shape_moved node) ∙ shape_types_map (λ (x : Pos). x) (λ (x : Text). x) (λ (x : Text). x) move (node_shape node)

  module _ (nodes : List Node) (put : QName → Tree) where
    no_parameter : (node : Node) → ((q : QName) → node ≡ Param q → ⊥) → tree_of (retype (replaced put) (retype (tree nodes) (node_shape node))) ≡ level_replaced put (retype (tree nodes) (node_shape node))
    no_parameter (Param q) none = absurd (none q refl)
    no_parameter _ none = refl

    -- a node over nodes that denote its types, replaced, denotes its type, replaced
    pub node_replaced : (node : Node) → ((q : QName) → node ≡ Param q → ⊥) → AllByRecursion (λ c. tree nodes (move c) ≡ replaced put (tree nodes c)) (children node)
        → tree_of (retype (tree nodes) (node_shape (node_moved move node))) ≡ level_replaced put (retype (tree nodes) (node_shape node))
    node_replaced node none each =
        let shape = node_shape node in
        let alike : retype (tree nodes) (retype move shape) ≡ retype (replaced put) (retype (tree nodes) shape) =
        retype_twice move (tree nodes) Pos Text Text shape
        ∙ retype_agrees (λ c. tree nodes (move c)) (λ c. replaced put (tree nodes c)) Pos Text Text shape each
        ∙ sym (retype_twice (tree nodes) (replaced put) Pos Text Text shape) in
        ap (λ s. tree_of (retype (tree nodes) s)) (node_shape_moved node) ∙ ap tree_of alike ∙ no_parameter node none

    generic_stays : (type : Tree) → IsGeneric type → IsGeneric (replaced put type)
    generic_stays (named q) g = tt
    generic_stays (alias q) g = tt
    generic_stays _ g = absurd g

    -- an instance has the name of a generic type and an argument, as before
    pub meets_moved : (node : Node) → AllByRecursion (λ c. tree nodes (move c) ≡ replaced put (tree nodes c)) (children node)
        → MeetsBase (retype (tree nodes) (node_shape node)) → MeetsBase (retype (tree nodes) (node_shape (node_moved move node)))
    meets_moved (Instance base args) each meets =
        let own = (all_right (λ c. tree nodes (move c) ≡ replaced put (tree nodes c)) args (base ∷ []) each).0 in (
          subst IsGeneric (sym own) (generic_stays (tree nodes base) meets.0),
          (let some = meets.1 in omega (arith, length-map (map move args) (tree nodes), length-map args move, length-map args (tree nodes))),
        )
    meets_moved _ each meets = tt

-- what stands in a type stands, replaced, in the replaced one
level_held : (put : QName → Tree) (level : Level) (part : Tree) → Contains (shape_types level) part → Contains (parts (level_replaced put level)) (replaced put part)
level_held put (parameter_of name path) part held = absurd (contains_none part held)
level_held put level part held =
    let types : parts (tree_of (retype (replaced put) level)) ≡ map (replaced put) (shape_types level) =
    ap shape_types (level_of-tree_of (retype (replaced put) level)) ∙ shape_types_map (λ (x : Pos). x) (λ (x : Text). x) (λ (x : Text). x) (replaced put) level in
    subst (λ l. Contains l (replaced put part)) (sym types) (contains_map (replaced put) (shape_types level) part held)

pub within_replaced : (put : QName → Tree) (whole part : Tree) → Within whole part → Within (replaced put whole) (replaced put part)
within_replaced put _ _ (itself type) = itself (replaced put type)
within_replaced put _ _ (inside type part below held rest) =
    inside (replaced put type) (replaced put part) (replaced put below)
    (subst (λ t. Contains (parts t) (replaced put part)) (sym (replaced_by_level put type)) (level_held put (level_of type) part held)) (within_replaced put part below rest)

pub covers_replaced : (put : QName → Tree) (whole part : Tree) → Within whole part → Covers (replaced put whole ∷ []) (replaced put part ∷ [])
covers_replaced put whole part within = covers_each (replaced put whole ∷ []) (replaced put part ∷ []) (λ type held.
    (replaced put whole, Contains-get_or (replaced put whole ∷ []) 0 (replaced put whole) (omega arith), subst (Within (replaced put whole)) (sym (contains_one type (replaced put part) held)) (within_replaced put whole part within)))

-- What was made stays as nodes are added, and one more is noted.

pub is_moved : (moves : Moves) (id made : ℕ) → made_for moves id ≡ Some made → moved moves id ≡ made
is_moved moves id made e = ap (λ o. unwrap_or o id) e

pub children_made : (nodes : List Node) (put : QName → Tree) (moves : Moves) → AreMoves nodes put moves → (ids : List ℕ) → AllByRecursion (IsMade moves) ids → AllByRecursion (λ c. tree nodes (moved moves c) ≡ replaced put (tree nodes c)) ids
children_made nodes put moves are ids made = all_weaker (IsMade moves) (λ c. tree nodes (moved moves c) ≡ replaced put (tree nodes c)) (λ c one. ap (tree nodes) (is_moved moves c one.0 one.1) ∙ (are c one.0 one.1).denotes) ids made

pub children_below : (nodes : List Node) (put : QName → Tree) (moves : Moves) → AreMoves nodes put moves → (ids : List ℕ) → AllByRecursion (IsMade moves) ids → AllBelow (length nodes) (map (moved moves) ids)
children_below nodes put moves are ids made =
    all_mapped (λ n. n < length nodes) (moved moves) ids (all_weaker (IsMade moves) (λ c. moved moves c < length nodes) (λ c one. subst (λ n. n < length nodes) (sym (is_moved moves c one.0 one.1)) (are c one.0 one.1).within) ids made)

pub replaced_later : (old new : Contents) (put : QName → Tree) (id made : ℕ) → Extends old new → IsReplaced old.nodes put id made → IsReplaced new.nodes put id made
replaced_later old new put id made grown was =
    let longer = extends_longer old new grown in
    record {
      from = let f = was.from in omega arith;
      within = let w = was.within in omega arith;
      denotes = extends_tree old new grown made was.within ∙ was.denotes ∙ ap (replaced put) (sym (extends_tree old new grown id was.from));
    }

pub put_later : (old new : Contents) (ps : List QName) (args : List ℕ) → Extends old new → AllBelow (length old.nodes) args → put_of new.nodes ps args ≡ put_of old.nodes ps args
put_later old new ps args grown below = ap (argument ps) (map_agrees_on (tree new.nodes) (tree old.nodes) args (all_weaker (λ n. n < length old.nodes) (λ n. tree new.nodes n ≡ tree old.nodes n) (λ n h. extends_tree old new grown n h) args below))

same_number : (m n : ℕ) → nat_eq m n ≡ true → m ≡ n
same_number = eqb-true

module _ (old new : Moves) (id made : ℕ) (notes : Notes old new id made) where
  pub noted_itself : IsMade new id
  noted_itself = (made, notes id ∙ ap (λ b. cond b (Some made) (made_for old id)) (nat_eq_equiv.refl id))

  pub noted_stays : (other : ℕ) → IsMade old other → IsMade new other
  noted_stays other was = by (nat_eq id other) (notes other)
    where
      by : (b : Bool) → made_for new other ≡ cond b (Some made) (made_for old other) → IsMade new other
      by true e = (made, e)
      by false e = (was.0, e ∙ was.1)

  pub noted_moves : (before now : Contents) (put : QName → Tree) → Extends before now → AreMoves before.nodes put old → IsReplaced now.nodes put id made → AreMoves now.nodes put new
  noted_moves before now put grown were own other target is = by (nat_eq id other) refl (sym (notes other) ∙ is)
    where
      by : (b : Bool) → nat_eq id other ≡ b → cond b (Some made) (made_for old other) ≡ Some target → IsReplaced now.nodes put other target
      by true e there =
          let same : other ≡ id = sym (same_number id other e) in
          let equal : made ≡ target = cc in
          subst (λ n. IsReplaced now.nodes put n target) (sym same) (subst (IsReplaced now.nodes put id) equal own)
      by false e there = replaced_later before now put other target grown (were other target there)

-- what is made for a node, as its type is now
pub made_later : (old new : Contents) (put : QName → Tree) (id made : ℕ) → Extends old new → id < length old.nodes → made < length new.nodes → tree new.nodes made ≡ replaced put (tree old.nodes id) → IsReplaced new.nodes put id made
made_later old new put id made grown there within denotes = record {
  from = let longer = extends_longer old new grown in omega arith;
  within = within;
  denotes = denotes ∙ ap (replaced put) (sym (extends_tree old new grown id there));
}
