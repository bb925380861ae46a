-- That what is told of aliases is what their declarations say.
use Rattle.std.specs.Prelude.{◌≡◌, ℕ, ◌<◌, cond, List, length, Option, Some, Bool, Result, Ok, Err}
use Rattle.std.specs.List.{All, Contains}
use Rattle.go_values.specs.declared.qualified.QName.{QName}
use Rattle.go_values.specs.declared.positions.Pos.{Pos}
use Rattle.environments.specs.Kept.{OpensBehind}
use Rattle.type_terms.specs.Arenas.{Contents}
use Rattle.type_terms.specs.DeclarationRules.{IsTypeParameter}
use Rattle.type_terms.specs.Declarations.{renamed_of}
use Rattle.type_terms.specs.declared.descriptors.Node.{Node}
use Rattle.type_terms.specs.Denotation.{tree}
use Rattle.type_terms.specs.Trees.{Tree}
use Rattle.type_terms.specs.TreeEquality.{same_name}
use Rattle.replacement.specs.declared.faults.SetFault.{SetFault}
use Rattle.replacement.specs.Expansion.{Entries, known, parameter_names}
use Rattle.replacement.specs.Calls.{Stops}
use Rattle.type_sets.specs.Covering.{Answer, identical_to}
use Rattle.right_sides.specs.declared.rights.Right.{Right}
use Rattle.right_sides.specs.Tables.{Table, Sides, side_of, identical_by}

-- an alias is told of as it is declared
pub record IsTold (entries : Entries) (table : Table) (q : QName) : Type 0 where
  pub pos : Pos
  pub tparams : List Tree
  pub right : Tree
  pub are : All IsTypeParameter tparams
  pub declared : known (entries q) q ≡ Ok (renamed_of pos tparams right)
  pub is : table q ≡ Some (record { names = parameter_names tparams; right = right })

abbrev pub AreTold : Entries → List QName → Table → Type 0
AreTold entries order table = (q : QName) → Contains order q → IsTold entries table q

-- By what is told a type covers what it covers by the environment, whatever settles the types that are tested.
abbrev pub CoversAlike : Entries → List QName → Tree → Table → ℕ → Type 0
CoversAlike entries names type table most = (settle : Tree → Result Tree SetFault) (free : Tree → Answer)
    → identical_to settle free entries names type ≡ identical_by settle free table most type

-- the call stopped for want of memory or room
abbrev pub IsFree : (Tree → Type 0) → Contents → Option Bool → SetFault → Type 0
IsFree opens before full fault = Stops opens before full fault ⊥

-- the right side of an alias with these type parameters was put
pub record IsPut (nodes : List Node) (q : QName) (tparams : List Tree) (right : Tree) (old new : Sides) : Type 0 where
  pub side : Right
  pub names : side.tparams.items ≡ parameter_names tparams
  pub denotes : tree nodes side.ty ≡ right
  pub there : side.ty < length nodes
  pub puts : (other : QName) → side_of new other ≡ cond (same_name q other) (Some side) (side_of old other)

-- the right side of an alias was put, or the call stopped
abbrev pub Adds : Entries → QName → Sides → Sides → Contents → Contents → Option Bool → Result (Unit {0}) SetFault
    → Type 0
Adds entries q old new before after full (Ok done) = (tparams : List Tree) (right : Tree) (pos : Pos)
    → known (entries q) q ≡ Ok (renamed_of pos tparams right) → IsPut after.nodes q tparams right old new
Adds entries q old new before after full (Err fault) =
    Stops (OpensBehind entries (λ name. name ≡ q)) before full fault (known (entries q) q ≡ Err fault)
