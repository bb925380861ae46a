-- Pairs of methods of one key, over the nodes of an arena.
use Rattle.std.specs.Prelude.{ℕ, List, [], ◌∷◌, ◌++◌, ◌&&◌, Bool, cond, Option, Some, None}
use Rattle.std.specs.Map.{lookup}
use Rattle.go_values.specs.declared.positions.Pos.{Pos}
use Rattle.type_terms.specs.declared.descriptors.Node.{Node}
use Rattle.type_terms.specs.declared.literals.Sig.{Sig}
use Rattle.type_terms.specs.Denotation.{tree}
use Rattle.type_terms.specs.NodeShapes.{sig_shape}
use Rattle.type_terms.specs.Shapes.{SigOf, sig_map, sig_types}
use Rattle.type_terms.specs.Trees.{Text, Tree}
use Rattle.type_terms.specs.TreeEquality.{same_text}
use Rattle.type_sets.specs.TypeSets.{Pair}
use Rattle.interface_nodes.specs.declared.methods.SetMethod.{SetMethod}
use Rattle.set_methods.specs.declared.keys.MethodKey.{MethodKey}
use Rattle.set_methods.specs.declared.pairs.MethodPair.{MethodPair}

-- the signature and the pair that are meant, where the arena has these nodes
abbrev pub sig_meant : List Node → Sig → SigOf Pos Text Tree
sig_meant nodes x =
    sig_map (λ (pos : Pos). pos) (λ (text : Text). text) (λ (text : Text). text) (tree nodes) (sig_shape x)

abbrev pub pair_meant : List Node → MethodPair → Pair
pair_meant nodes x = (sig_meant nodes x.later, sig_meant nodes x.first)

-- the nodes that stand in a pair
abbrev pub pair_nodes : MethodPair → List ℕ
pair_nodes x = sig_types (sig_shape x.later) ++ sig_types (sig_shape x.first)

abbrev pub key_of : SetMethod → MethodKey
key_of x = record { name = x.name; home = x.home }

abbrev pub same : MethodKey → MethodKey → Bool
same x y = same_text x.name y.name && same_text x.home y.home

-- the signature that entries have for a key
abbrev pub known : List (MethodKey × Sig) → MethodKey → Option Sig
known entries key = lookup (same key) entries

-- the first signature of a key stays, and one of a new key comes in
abbrev pub first_or : Option Sig → Bool → Sig → Option Sig
first_or (Some first) own sig = Some first
first_or None own sig = cond own (Some sig) None

abbrev pub with_first : (MethodKey → Option Sig) → SetMethod → MethodKey → Option Sig
with_first first method key = first_or (first key) (same key (key_of method)) method.sig

abbrev pub paired_with : Sig → Option Sig → List MethodPair
paired_with sig None = []
paired_with sig (Some first) = record { later = sig; first = first } ∷ []
