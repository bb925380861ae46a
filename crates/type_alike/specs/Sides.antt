-- Two types that are compared, each read by what an environment of its own has for names.
use Rattle.std.specs.Prelude.{◌&&◌, Bool, List, Result, Ok}
use Rattle.go_values.specs.declared.qualified.QName.{QName}
use Rattle.type_terms.specs.Trees.{Tree}
use Rattle.type_terms.specs.TreeEquality.{same_tree}
use Rattle.replacement.specs.declared.faults.SetFault.{SetFault}
use Rattle.replacement.specs.Expansion.{Entries, then, expanded}

-- what an environment has for names, and the names behind which something stands
pub record Side : Type 0 where
  pub entries : Entries
  pub names : List QName

pub record Sides : Type 0 where
  pub left : Side
  pub right : Side

abbrev pub swapped : Sides → Sides
swapped sides = record { left = sides.right; right = sides.left }

pub record Pair : Type 0 where
  pub left : Tree
  pub right : Tree

abbrev pub pair : Tree → Tree → Pair
pair left right = record { left = left; right = right }

abbrev pub same_pair : Pair → Pair → Bool
same_pair x y = same_tree x.left y.left && same_tree x.right y.right

-- a type with the right side in place of an alias at the head
abbrev pub expanded_in : Side → Tree → Result Tree SetFault
expanded_in side type = expanded side.entries side.names type

-- both heads are expanded, the left one first
abbrev pub settle : Sides → Pair → Result Pair SetFault
settle sides x = then (expanded_in sides.left x.left) (λ left.
    then (expanded_in sides.right x.right) (λ right. Ok (pair left right)))
