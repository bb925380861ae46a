-- What is told of aliases: the type parameters of each, and its right side; and what a type covers by that.
use Rattle.std.specs.Prelude.{◌≡◌, ℕ, ◌<◌, zero, suc, List, ◌==◌, cond, length, Option, Some, None, Err, option_map}
use Rattle.std.specs.Map.{lookup}
use Rattle.go_values.specs.declared.qualified.QName.{QName}
use Rattle.type_terms.specs.declared.descriptors.Node.{Node}
use Rattle.type_terms.specs.Denotation.{tree}
use Rattle.type_terms.specs.Trees.{Tree}
use Rattle.type_terms.specs.TreeEquality.{same_name}
use Rattle.replacement.specs.declared.faults.SetFault.{SetFault}
use Rattle.replacement.specs.declared.faults.SetFault.TheVariants.{AliasCycle}
use Rattle.std.specs.Prelude.{Result}
use Rattle.type_sets.specs.RightSides.{passed_on}
use Rattle.type_sets.specs.Covering.{Answer, Test, alike, itself}
use Rattle.whole_terms.specs.Tables.{fault_of, wrong_use}
use Rattle.right_sides.specs.declared.rights.Right.{Right}

pub record Told : Type 0 where
  pub names : List QName
  pub right : Tree

abbrev pub Table : Type 0
Table = QName → Option Told

abbrev pub told : List Node → Right → Told
told nodes x = record { names = x.tparams.items; right = tree nodes x.ty }

abbrev pub Sides : Type 0
Sides = List (QName × Right)

abbrev pub side_of : Sides → QName → Option Right
side_of sides q = lookup (same_name q) sides

abbrev pub table_of : List Node → Sides → Table
table_of nodes sides q = option_map (told nodes) (side_of sides q)

-- each right side is a node below n
abbrev pub AreWithin : ℕ → Sides → Type 0
AreWithin n sides = (q : QName) (x : Right) → side_of sides q ≡ Some x → x.ty < n

-- What an alias answers whose arguments answered, by what is told of it. Nothing is told of one that mentions itself.
module _ {R : Type 0} (fails : SetFault → R) (itself : QName → R) (inside : Tree → (QName → R) → R) where
  abbrev pub by_told : QName → List R → Option Told → R
  by_told q answers None = fails (AliasCycle q)
  by_told q answers (Some told) = cond (length answers == length told.names)
      (inside told.right (passed_on fails itself told.names answers))
      (fails (fault_of (wrong_use q (length told.names) (length answers))))

module _ (settle : Tree → Result Tree SetFault) (free : Tree → Answer) (table : Table) where
  -- where at most n right sides stand in one another
  unfoldable pub table_alike : ℕ → QName → List Test → Test
  table_alike zero q tests = λ type. Err (AliasCycle q)
  table_alike (suc n) q tests = by_told (λ fault type. Err fault) (itself settle free)
      (λ right given. alike settle free (table_alike n) given right) q tests (table q)

  -- whether a type is identical to another one, whose aliases are told of
  abbrev pub identical_by : ℕ → Tree → Test
  identical_by n type = alike settle free (table_alike n) (itself settle free) type
