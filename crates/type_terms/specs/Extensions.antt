-- What stays as an arena is extended.
use Rattle.std.proofs.Common.{◌≡◌, ℕ, ◌<◌, ◌≤◌, List, [], ◌++◌, length, refl, ap, sym, ◌∙◌, arith}
use Rattle.std.proofs.Common.{length-append, append_assoc}
use Rattle.std.proofs.lemmas.List.{append-nil}
use Rattle.type_terms.specs.declared.declarations.DeclNode.{DeclNode}
use Rattle.type_terms.specs.Denotation.{tree}
use Rattle.type_terms.specs.Arenas.{Contents, AllBelow, Extends}
use Rattle.type_terms.specs.Denoted.{tree_stays, all_weaker}
use Rattle.type_terms.specs.Declarations.{decl_nodes, decl_of}
use Rattle.type_terms.specs.DeclarationLaws.{decl_of-stays}

pub extends_itself : (contents : Contents) → Extends contents contents
extends_itself contents = record { more = []; nodes = sym (append-nil contents.nodes); limit = refl }

pub extends_again : (old middle new : Contents) → Extends old middle → Extends middle new → Extends old new
extends_again old middle new first second = record {
  more = first.more ++ second.more;
  nodes = second.nodes ∙ ap (λ nodes. nodes ++ second.more) first.nodes ∙ append_assoc old.nodes first.more second.more;
  limit = second.limit ∙ first.limit;
}

pub extends_longer : (old new : Contents) → Extends old new → length old.nodes ≤ length new.nodes
extends_longer old new grown = omega (arith, ap length grown.nodes, length-append old.nodes grown.more)

-- each node keeps its tree
pub extends_tree : (old new : Contents) → Extends old new → (n : ℕ) → n < length old.nodes
    → tree new.nodes n ≡ tree old.nodes n
extends_tree old new grown n h = ap (λ nodes. tree nodes n) grown.nodes ∙ tree_stays old.nodes grown.more n h

-- nodes of the arena stay in it
pub extends_below : (old new : Contents) → Extends old new → (ids : List ℕ) → AllBelow (length old.nodes) ids
    → AllBelow (length new.nodes) ids
extends_below old new grown ids below =
    all_weaker (λ n. n < length old.nodes) (λ n. n < length new.nodes)
    (λ n h. omega (arith, extends_longer old new grown)) ids below

-- a declaration keeps its meaning
pub extends_decl : (old new : Contents) → Extends old new → (decl : DeclNode)
    → AllBelow (length old.nodes) (decl_nodes decl) → decl_of new.nodes decl ≡ decl_of old.nodes decl
extends_decl old new grown decl below = ap (λ nodes. decl_of nodes decl) grown.nodes ∙ decl_of-stays old.nodes
    grown.more decl below
