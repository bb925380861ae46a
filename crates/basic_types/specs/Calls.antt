-- What a call answers that asks an environment for the basic type of a type.
use Rattle.std.specs.Prelude.{◌≡◌, ◌<◌, ℕ, Bool, true, false, not, List, [], ◌∷◌, ◌++◌, length}
use Rattle.std.specs.Prelude.{Option, Some, None, Result, Ok, Err, IfSome, option_map}
use Rattle.std.specs.List.{list_any}
use Rattle.code_tables.specs.declared.predeclared.Basic.{Basic}
use Rattle.go_values.specs.declared.qualified.QName.{QName}
use Rattle.type_terms.specs.Arenas.{Contents}
use Rattle.type_terms.specs.Denotation.{tree}
use Rattle.type_terms.specs.TreeEquality.{same_name}
use Rattle.type_terms.specs.Trees.{Tree}
use Rattle.type_terms.specs.Declarations.{Decl}
use Rattle.environments.specs.declared.declaring.EnvError.{EnvError}
use Rattle.environments.specs.declared.declaring.EnvError.TheVariants.{Unknown, Damaged, TableFull, Nodes, OutOfMemory}
use Rattle.environments.specs.Environments.{Entry, declared, damaged, Answers}
use Rattle.environments.specs.Kept.{OpensBehind}
use Rattle.basic_types.specs.BasicTypes.{Entries, head_name, side_behind, ComesDownTo, IsReached}

abbrev pub IsDeclared : Option Entry → Type 0
IsDeclared entry = (decl : Decl) × (entry ≡ Some (declared decl))

-- What an answer says of the type, and of the arena and the flag at exit. Each answer comes only so, and they exclude
-- each other; OutOfMemory is free.
abbrev pub IsBasicOf : Entries → Tree → Contents → Option Bool → Result (Option Basic) EnvError → Type 0
IsBasicOf entries type arena full (Ok (Some basic)) = ComesDownTo entries basic type
IsBasicOf entries type arena full (Ok None) = ((basic : Basic) → ComesDownTo entries basic type → ⊥)
    × ((q : QName) → IsReached entries type q → IsDeclared (entries q))
IsBasicOf entries type arena full (Err (Unknown q)) = IsReached entries type q × (entries q ≡ None)
IsBasicOf entries type arena full (Err (Damaged q fault)) = IsReached entries type q
    × ((read : List Tree) × (entries q ≡ Some (damaged fault read)))
IsBasicOf entries type arena full (Err TableFull) = full ≡ Some true
IsBasicOf entries type arena full (Err Nodes) = length arena.nodes ≡ arena.limit
IsBasicOf entries type arena full (Err OutOfMemory) = Unit {0}

-- the name at the head of a type
abbrev pub AsksHead : Tree → QName → Type 0
AsksHead type q = head_name type ≡ Some q

-- the types that come with what stands behind the names on the way
abbrev pub OpensOnWay : Entries → Tree → Tree → Type 0
OpensOnWay entries type opened = OpensBehind entries (IsReached entries type) opened

-- ---- one turn

-- the type behind a name, or why there is none
abbrev pub GivesSide : Option Entry → QName → Contents → Option Bool → Result (Option ℕ) EnvError → Type 0
GivesSide entry q arena full (Ok side) = IsDeclared entry × (side_behind entry ≡ option_map (tree arena.nodes) side)
    × IfSome side (λ id. id < length arena.nodes)
GivesSide entry q arena full (Err fault) = Answers entry q arena full (Err fault)

-- a name comes to those that are met, unless it was one of them
pub record Meets (old : List QName) (q : QName) (new : List QName) (fresh : Bool) : Type 0 where
  pub was : list_any (same_name q) old ≡ not fresh
  pub added : fresh ≡ true → new ≡ old ++ q ∷ []

-- a name at the head that wasn't met before gave way to the type behind it
pub record IsLed (entries : Entries) (old : List QName) (type : Tree) (new : List QName) (side : Tree) : Type 0 where
  pub head : QName
  pub head_is : head_name type ≡ Some head
  pub fresh : list_any (same_name head) old ≡ false
  pub met : new ≡ old ++ head ∷ []
  pub is_declared : IsDeclared (entries head)
  pub side_is : side_behind (entries head) ≡ Some side

-- why it ends: there is no name at the head, or one of no type, or one that was met before
pub data Ends (entries : Entries) (old : List QName) (type : Tree) : Type 0 where
  no_name : head_name type ≡ None → Ends entries old type
  no_type : (q : QName) → head_name type ≡ Some q → IsDeclared (entries q) → side_behind (entries q) ≡ None
      → Ends entries old type
  again : (q : QName) → head_name type ≡ Some q → list_any (same_name q) old ≡ true → Ends entries old type

-- the environment gives no declaration of the name at the head
abbrev pub Stops : Entries → Tree → Contents → Option Bool → EnvError → Type 0
Stops entries type arena full OutOfMemory = Unit {0}
Stops entries type arena full fault =
    (q : QName) × (head_name type ≡ Some q) × Answers (entries q) q arena full (Err fault)

abbrev pub Turns : Entries → List QName → Tree → List QName → Contents → Option Bool → Result (Option ℕ) EnvError
    → Type 0
Turns entries old type new arena full (Ok None) = Ends entries old type
Turns entries old type new arena full (Ok (Some id)) = IsLed entries old type new (tree arena.nodes id)
    × (id < length arena.nodes)
Turns entries old type new arena full (Err fault) = Stops entries type arena full fault
