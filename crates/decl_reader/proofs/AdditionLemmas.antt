-- What calls that make nodes add, by the types that they name.
use Rattle.std.proofs.Common.{◌≡◌, ℕ, ◌<◌, ◌≤◌, List, [], ◌∷◌, ◌++◌, map, length, sym, ap, subst, ◌∙◌}
use Rattle.std.specs.List.{flat_map}
use Rattle.std.proofs.lemmas.List.{map-append}
use Rattle.go_values.specs.declared.positions.Pos.{Pos}
use Rattle.type_terms.specs.Shapes.{shape_types, retype}
use Rattle.type_terms.specs.ShapeLaws.{shape_types_map}
use Rattle.type_terms.specs.TreeLevels.{level_of-tree_of}
use Rattle.type_terms.specs.Trees.{Text, Tree, tree_of}
use Rattle.type_terms.specs.Arenas.{Contents, Extends}
use Rattle.type_terms.specs.declared.descriptors.Node.{Node}
use Rattle.type_terms.specs.Denotation.{tree}
use Rattle.type_terms.specs.Additions.{StandsIn, Covers, AddsOnly, Outgrows}
use Rattle.type_terms.specs.AdditionLaws.{covers_parts, covers_left, covers_right, covers_again, adds_more, additions_join, outgrown_by_more, want_of_nodes_joins}
use Rattle.decl_reader.specs.Shapes.{Shape}
use Rattle.decl_reader.specs.Blocks.{Entry, AllInside}
use Rattle.decl_reader.specs.Meant.{Named, named_by}
use Rattle.decl_reader.proofs.ExtendsLemmas.{named_stays}

-- some numbers, and then others
module _ (named : Named) (xs ys : List ℕ) where
  pub first_covered : Covers (map named (xs ++ ys)) (map named xs)
  first_covered = subst (λ (ts : List Tree). Covers ts (map named xs)) (sym (map-append named xs ys)) (covers_left (map named xs) (map named ys))

  pub others_covered : Covers (map named (xs ++ ys)) (map named ys)
  others_covered = subst (λ (ts : List Tree). Covers ts (map named ys)) (sym (map-append named xs ys)) (covers_right (map named xs) (map named ys))

-- A call that follows others names types that are covered by those of all.
module _ (version : ℕ) (entries : List Entry) (first mid new : Contents) (inside : AllInside (length first.nodes) entries) (types : List Tree) (numbers : List ℕ) (so_far : Extends first mid) (before : AddsOnly types first mid)
    (covers : Covers types (map (named_by version first.nodes entries) numbers)) where
  abbrev here : List Tree
  here = map (named_by version mid.nodes entries) numbers

  here_covered : Covers types here
  here_covered = subst (Covers types) (ap (λ (named : Named). map named numbers) (sym (named_stays first mid so_far version entries inside))) covers

  pub more_added : Extends mid new → AddsOnly here mid new → AddsOnly types first new
  more_added grown adds = additions_join first mid new types before grown (adds_more types here mid new here_covered adds)

  pub more_outgrown : Outgrows mid here → Outgrows first types
  more_outgrown outgrown = want_of_nodes_joins first mid types so_far before (outgrown_by_more mid types here here_covered outgrown)

-- The types of the first of a list, and those of the others.
module _ {S : Type 0} (numbers : S → List ℕ) (named : Named) (types : List Tree) (x : S) (xs : List S) (covers : Covers types (map named (flat_map numbers (x ∷ xs)))) where
  pub head_covered : Covers types (map named (numbers x))
  head_covered = covers_again types (map named (flat_map numbers (x ∷ xs))) (map named (numbers x)) covers (first_covered named (numbers x) (flat_map numbers xs))

  pub tail_covered : Covers types (map named (flat_map numbers xs))
  tail_covered = covers_again types (map named (flat_map numbers (x ∷ xs))) (map named (flat_map numbers xs)) covers (others_covered named (numbers x) (flat_map numbers xs))

-- a descriptor's type covers those that it names
pub parts_covered : (named : Named) (x : Shape) → Covers (tree_of (retype named x) ∷ []) (map named (shape_types x))
parts_covered named x =
    subst (Covers (tree_of (retype named x) ∷ []))
    (ap shape_types (level_of-tree_of (retype named x)) ∙ shape_types_map (λ (p : Pos). p) (λ (t : Text). t) (λ (t : Text). t) named x)
    (covers_parts (tree_of (retype named x)))

-- what was added is so of the nodes as they are called elsewhere
pub added_nodes : (types : List Tree) (old new : Contents) (nodes : List Node) → AddsOnly types old new → new.nodes ≡ nodes → (number : ℕ) → length old.nodes ≤ number → number < length nodes → StandsIn types (tree nodes number)
added_nodes types old new nodes adds same = subst (λ (ns : List Node). (number : ℕ) → length old.nodes ≤ number → number < length ns → StandsIn types (tree ns number)) same adds
