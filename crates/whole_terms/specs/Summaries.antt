-- What is told of aliases is what their right sides answer.
use Rattle.std.specs.Prelude.{◌≡◌, ◌≤◌, ℕ, cond, List, length, Option, Some, Bool, Result, Ok, Err}
use Rattle.std.specs.List.{Contains}
use Rattle.go_values.specs.declared.qualified.QName.{QName}
use Rattle.go_values.specs.declared.positions.Pos.{Pos}
use Rattle.environments.specs.Environments.{Entry}
use Rattle.environments.specs.Kept.{OpensBehind}
use Rattle.type_terms.specs.Arenas.{Contents}
use Rattle.type_terms.specs.Declarations.{renamed_of}
use Rattle.type_terms.specs.Trees.{Tree}
use Rattle.type_terms.specs.TreeEquality.{same_name}
use Rattle.replacement.specs.declared.faults.SetFault.{SetFault}
use Rattle.replacement.specs.Expansion.{Entries, known, parameter_names}
use Rattle.replacement.specs.Calls.{Stops}
use Rattle.type_sets.specs.TermTests.{Tested, holds, expands}
use Rattle.whole_terms.specs.Tables.{Told, Table, by_table, looked, used}

-- Each of these aliases is told of, and so that it answers as by its right side.
pub record Tells (entries : Entries) (order : List QName) (table : Table) : Type 0 where
  pub has : (q : QName) → Contains order q → (known_as : Told) × (table q ≡ Some known_as)
  pub answers : (q : QName) (known_as : Told) → table q ≡ Some known_as → (n : ℕ) → length order ≤ n
      → (arguments : List Tested) → expands entries n q arguments ≡ used q (Some known_as) arguments

-- the call stopped for want of memory or room
abbrev pub IsFree : (Tree → Type 0) → Contents → Option Bool → SetFault → Type 0
IsFree opens before full fault = Stops opens before full fault ⊥

-- what is told of an alias, where the table tells of those that its right side mentions
pub record IsSummary (tparams : List Tree) (right : Tree) (table : Table) (new : Told) : Type 0 where
  pub names : new.names ≡ parameter_names tparams
  pub looks : (given : QName → Tested) → holds (by_table table) given right ≡ looked given new.looks new.breach

-- it was put to the table
pub record IsPut (q : QName) (tparams : List Tree) (right : Tree) (old new : Table) : Type 0 where
  pub summary : Told
  pub tells : IsSummary tparams right old summary
  pub puts : (other : QName) → new other ≡ cond (same_name q other) (Some summary) (old other)

-- what is told of an alias was put, or the call stopped
abbrev pub Adds : Entries → QName → Table → Table → Contents → Option Bool → Result (Unit {0}) SetFault → Type 0
Adds entries q old new before full (Ok done) = (tparams : List Tree) (right : Tree) (pos : Pos)
    → known (entries q) q ≡ Ok (renamed_of pos tparams right) → IsPut q tparams right old new
Adds entries q old new before full (Err fault) =
    Stops (OpensBehind entries (λ name. name ≡ q)) before full fault (known (entries q) q ≡ Err fault)
