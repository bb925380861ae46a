-- How what calls add to an arena joins, and how a want of room does.
use Rattle.std.proofs.Common.{◌≡◌, ◌≢◌, ℕ, ◌<◌, ◌≤◌, List, [], ◌∷◌, ◌++◌, length, get_or, ap, sym, ◌∙◌}
use Rattle.std.proofs.Common.{inl, inr, ◌⊎◌, subst, arith, zero, suc, length-append}
use Rattle.std.specs.List.{AllPairs, Contains}
use Rattle.std.proofs.lemmas.Bool.{cases_lt}
use Rattle.std.proofs.lemmas.List.Elements.{Contains-append_left, Contains-append_right, Contains-append_cases}
use Rattle.std.proofs.lemmas.List.Elements.{Contains-get_or}
use Rattle.std.proofs.lemmas.List.{get_or_default}
use Rattle.std.proofs.lemmas.List.Quantifiers.{all_pairs_push}
use Rattle.type_terms.specs.declared.descriptors.Node.{Node}
use Rattle.type_terms.specs.Shapes.{retype}
use Rattle.code_tables.specs.declared.predeclared.Basic.TheVariants.{Bool as bool_type}
use Rattle.type_terms.specs.Trees.{Tree, predeclared, tree_of}
use Rattle.type_terms.specs.Parts.{parts, itself, inside}
use Rattle.type_terms.specs.NodeShapes.{node_shape, children}
use Rattle.type_terms.specs.Denotation.{trees_after, tree}
use Rattle.type_terms.specs.Arenas.{Contents, IsNew, AllBelow, IsArena, Extends, Inserted}
use Rattle.type_terms.specs.Additions.{StandsIn, Covers, IsDenoted, AddsOnly, Outgrows}
use Rattle.type_terms.specs.Denoted.{after_length, tree_told, node_told_by_tree}
use Rattle.type_terms.specs.Extensions.{extends_tree}
use Rattle.type_terms.specs.TreeSizes.{within_within}

-- What covers what.

pub stands_itself : (types : List Tree) (type : Tree) → Contains types type → StandsIn types type
stands_itself types type held = (type, held, itself type)

one_has : (type : Tree) → Contains (type ∷ []) type
one_has type = Contains-get_or (type ∷ []) 0 type (omega arith)

pub stands_single : (type : Tree) → StandsIn (type ∷ []) type
stands_single type = (type, one_has type, itself type)

-- where each of the types stands in the others, these cover them
pub covers_each : (more fewer : List Tree) → ((type : Tree) → Contains fewer type → StandsIn more type)
    → Covers more fewer
covers_each more fewer each type stands =
    let outer = each stands.0 stands.1 in
    (outer.0, outer.1, within_within outer.0 stands.0 type outer.2 stands.2)

pub covers_itself : (types : List Tree) → Covers types types
covers_itself types type stands = stands

pub covers_left : (left right : List Tree) → Covers (left ++ right) left
covers_left left right type stands = (stands.0, Contains-append_left left right stands.0 stands.1, stands.2)

pub covers_right : (left right : List Tree) → Covers (left ++ right) right
covers_right left right type stands = (stands.0, Contains-append_right left right stands.0 stands.1, stands.2)

-- a type covers its parts
pub covers_parts : (type : Tree) → Covers (type ∷ []) (parts type)
covers_parts type = covers_each (type ∷ []) (parts type) (λ part held.
    (type, one_has type, inside type part part held (itself part)))

pub covers_again : (most more fewer : List Tree) → Covers most more → Covers more fewer → Covers most fewer
covers_again most more fewer first second type stands = first type (second type stands)

covers_both : (left right : List Tree) (type : Tree) → StandsIn (left ++ right) type
    → StandsIn left type ⊎ StandsIn right type
covers_both left right type stands = by (Contains-append_cases left right stands.0 stands.1)
  where
    by : Contains left stands.0 ⊎ Contains right stands.0 → StandsIn left type ⊎ StandsIn right type
    by (inl held) = inl (stands.0, held, stands.2)
    by (inr held) = inr (stands.0, held, stands.2)

-- What calls add.

pub adds_none : (types : List Tree) (contents : Contents) → AddsOnly types contents contents
adds_none types contents = λ number from below. absurd (omega arith)

pub adds_more : (more fewer : List Tree) (old new : Contents) → Covers more fewer → AddsOnly fewer old new
    → AddsOnly more old new
adds_more more fewer old new covers adds = λ number from below. covers (tree new.nodes number) (adds number from below)

-- two calls, one after the other
module _ (old middle new : Contents) (types : List Tree) (first : AddsOnly types old middle)
    (grown : Extends middle new) where
  -- what both add stands in types that cover what each adds
  pub additions_join : AddsOnly types middle new → AddsOnly types old new
  additions_join second = λ number from below. by number from below (cases_lt number (length middle.nodes))
    where
      by : (number : ℕ) → length old.nodes ≤ number → number < length new.nodes
          → (number < length middle.nodes) ⊎ (length middle.nodes ≤ number) → StandsIn types (tree new.nodes number)
      by number from below (inl early) = subst (StandsIn types) (sym (extends_tree middle new grown number early))
          (first number from early)
      by number from below (inr late) = second number late below

-- what an insertion adds
pub inserted_adds : (nodes after : List Node) (place : ℕ) (node : Node) → Inserted nodes after place node
    → (number : ℕ) → length nodes ≤ number → number < length after
    → StandsIn (tree_of (retype (tree nodes) (node_shape node)) ∷ []) (tree after number)
inserted_adds nodes after place node put number from below =
    let type = tree_of (retype (tree nodes) (node_shape node)) in
    subst (StandsIn (type ∷ [])) (sym (ap (tree after) (put.last number from below) ∙ put.denotes)) (stands_single type)

-- what is denoted after additions was denoted before, or stands in what was to be added
pub denoted_before : (old new : Contents) (types : List Tree) → Extends old new → AddsOnly types old new
    → (type : Tree) → IsDenoted new.nodes type → IsDenoted old.nodes type ⊎ StandsIn types type
denoted_before old new types grown adds type is = by (cases_lt is.0 (length old.nodes))
  where
    by : (is.0 < length old.nodes) ⊎ (length old.nodes ≤ is.0) → IsDenoted old.nodes type ⊎ StandsIn types type
    by (inl early) = inl (is.0, early, sym (extends_tree old new grown is.0 early) ∙ is.2)
    by (inr late) = inr (subst (StandsIn types) is.2 (adds is.0 late is.1))

-- Why there is no room.

pub outgrown_by_more : (arena : Contents) (more fewer : List Tree) → Covers more fewer → Outgrows arena fewer
    → Outgrows arena more
outgrown_by_more arena more fewer covers outgrown = record {
  trees = outgrown.trees;
  apart = outgrown.apart;
  known = λ type held. by type (outgrown.known type held);
  many = outgrown.many;
}
  where
    by : (type : Tree) → IsDenoted arena.nodes type ⊎ StandsIn fewer type
        → IsDenoted arena.nodes type ⊎ StandsIn more type
    by type (inl denoted) = inl denoted
    by type (inr stands) = inr (covers type stands)

-- A want of room in a later call is one of the arena at entry, by the types of both calls.
pub want_of_nodes_joins : (old middle : Contents) (types : List Tree) → Extends old middle → AddsOnly types old middle
    → Outgrows middle types → Outgrows old types
want_of_nodes_joins old middle types grown adds outgrown = record {
  trees = outgrown.trees;
  apart = outgrown.apart;
  known = λ type held. by type (outgrown.known type held);
  many = subst (λ limit. limit < length outgrown.trees) grown.limit outgrown.many;
}
  where
    by : (type : Tree) → IsDenoted middle.nodes type ⊎ StandsIn types type
        → IsDenoted old.nodes type ⊎ StandsIn types type
    by type (inl denoted) = denoted_before old middle types grown adds type denoted
    by type (inr stands) = inr stands

-- a list of one has that one
one_of : (type other : Tree) → Contains (type ∷ []) other → other ≡ type
one_of type other (zero, within, is) = sym is
one_of type other (suc k, within, is) = absurd (omega arith)

tree_in : (nodes : List Node) (k : ℕ) (d : Tree) → k < length (trees_after [] nodes)
    → get_or (trees_after [] nodes) k d ≡ tree nodes k
unfolding tree
tree_in nodes k d within = get_or_default (trees_after [] nodes) k d (predeclared bool_type) within

-- An arena at its limit has no room for a node that isn't there.
module _ (arena : Contents) (is : IsArena arena.nodes) (node : Node)
    (below : AllBelow (length arena.nodes) (children node)) (new : IsNew arena.nodes node)
    (at_limit : length arena.nodes ≡ arena.limit) where
  abbrev type : Tree
  type = tree_of (retype (tree arena.nodes) (node_shape node))

  abbrev held : List Tree
  held = trees_after [] arena.nodes

  within_nodes : (k : ℕ) → k < length held → k < length arena.nodes
  within_nodes k within = omega (arith, after_length [] arena.nodes)

  not_denoted : (k : ℕ) (d : Tree) → k < length held → get_or held k d ≢ type
  not_denoted k d within same = new k (node_told_by_tree arena.nodes is k node (within_nodes k within) below
      (sym (tree_in arena.nodes k d within) ∙ same))

  held_apart : AllPairs (λ left right. left ≢ right) held
  held_apart i j d less within same =
      let first : i < length held = omega arith in
      let equal : i ≡ j = tree_told arena.nodes is i j (within_nodes i first) (within_nodes j within)
      (sym (tree_in arena.nodes i d first) ∙ same ∙ tree_in arena.nodes j d within) in
      omega arith

  held_known : (other : Tree) → Contains held other ⊎ Contains (type ∷ []) other
      → IsDenoted arena.nodes other ⊎ StandsIn (type ∷ []) other
  held_known other (inl (k, within, same)) =
      inl (k, within_nodes k within, sym (tree_in arena.nodes k other within) ∙ same)
  held_known other (inr held_there) = inr (stands_itself (type ∷ []) other held_there)

  pub full_outgrown : Outgrows arena (type ∷ [])
  full_outgrown = record {
    trees = held ++ type ∷ [];
    apart = all_pairs_push (λ left right. left ≢ right) held type held_apart not_denoted;
    known = λ other there. held_known other (Contains-append_cases held (type ∷ []) other there);
    many = omega (arith, at_limit, after_length [] arena.nodes, length-append held (type ∷ []));
  }

-- An arena has no room, which held what stood at entry and what calls added: then there was none at entry.
pub a_full_arena_is_outgrown : (old now : Contents) (types : List Tree) → Extends old now → AddsOnly types old now
    → IsArena now.nodes → (node : Node) → AllBelow (length now.nodes) (children node) → IsNew now.nodes node
    → length now.nodes ≡ now.limit → StandsIn types (tree_of (retype (tree now.nodes) (node_shape node)))
    → Outgrows old types
a_full_arena_is_outgrown old now types grown adds is node below new at_limit stands =
    let type = tree_of (retype (tree now.nodes) (node_shape node)) in
    let covers : Covers types (type ∷ []) = covers_each types (type ∷ [])
    (λ other held. subst (StandsIn types) (sym (one_of type other held)) stands) in
    want_of_nodes_joins old now types grown adds
    (outgrown_by_more now types (type ∷ []) covers (full_outgrown now is node below new at_limit))
