-- What calls that ask an environment answer, and why they stop.
use Rattle.std.specs.Prelude.{◌≡◌, ◌<◌, ◌⊎◌, ℕ, Bool, true, false, not, List, [], ◌∷◌, ◌++◌, length, map}
use Rattle.std.specs.Prelude.{Option, Some, None, Result, Ok, Err, IsSomeAnd, IsOkAnd}
use Rattle.std.specs.List.{Contains, list_any}
use Rattle.go_values.specs.declared.qualified.QName.{QName}
use Rattle.environments.specs.declared.declaring.EnvError.TheVariants.{TableFull, Nodes as EnvNodes}
use Rattle.environments.specs.declared.declaring.EnvError.TheVariants.{OutOfMemory as EnvMemory}
use Rattle.environments.specs.declared.given.Given.{Given}
use Rattle.environments.specs.Environments.{Entry, entry_types, given_decl}
use Rattle.environments.specs.OpenedTypes.{AddsAmong, OutgrowsAmong}
use Rattle.type_terms.specs.declared.descriptors.Node.{Node}
use Rattle.type_terms.specs.Trees.{Tree}
use Rattle.type_terms.specs.TreeEquality.{same_name}
use Rattle.type_terms.specs.Arenas.{Contents, AllBelow}
use Rattle.type_terms.specs.Declarations.{Decl, decl_nodes, decl_of}
use Rattle.type_terms.specs.Denotation.{tree}
use Rattle.replacement.specs.declared.faults.SetFault.{SetFault}
use Rattle.replacement.specs.declared.faults.SetFault.TheVariants.{Env, Nodes, OutOfMemory}
use Rattle.replacement.specs.Expansion.{Entries, Applied, alias_use, defined_use, alias_right, defined_right, led}
use Rattle.replacement.specs.Expansion.{expanded}

-- Why a call stopped that opens such types, where this is the arena at entry and the flag at exit. Want of memory alone
-- is free; nodes are wanting only where the arena had no room for what the call opens.
abbrev pub Stops : (Tree → Type 0) → Contents → Option Bool → SetFault → Type 0 → Type 0
Stops opens before full OutOfMemory cause = Unit {0}
Stops opens before full Nodes cause = OutgrowsAmong opens before
Stops opens before full (Env EnvMemory) cause = Unit {0}
Stops opens before full (Env EnvNodes) cause = OutgrowsAmong opens before
Stops opens before full (Env TableFull) cause = full ≡ Some true
Stops opens before full fault cause = cause

-- the answer is a node of the type that is wanted, or the fault that is, or the call stopped
abbrev pub Gives : (Tree → Type 0) → Contents → Contents → Option Bool → Result ℕ SetFault → Result Tree SetFault
    → Type 0
Gives opens before after full (Ok id) want = (want ≡ Ok (tree after.nodes id)) × (id < length after.nodes)
Gives opens before after full (Err fault) want = Stops opens before full fault (want ≡ Err fault)

-- the same of a side, which is all that is opened
abbrev pub GivesSide : Contents → Contents → Option Bool → Result ℕ SetFault → Result Tree SetFault → Type 0
GivesSide before after full result want = Gives (λ type. want ≡ Ok type) before after full result want

abbrev pub AddsSide : Contents → Contents → Result Tree SetFault → Type 0
AddsSide before after want = AddsAmong (λ type. want ≡ Ok type) before after

-- the same of a declaration
abbrev pub GivesDecl : (Tree → Type 0) → Contents → Contents → Option Bool → Result Given SetFault
    → Result Decl SetFault → Type 0
GivesDecl opens before after full (Ok given) want = (want ≡ Ok (decl_of after.nodes (given_decl given)))
    × AllBelow (length after.nodes) (decl_nodes (given_decl given))
GivesDecl opens before after full (Err fault) want = Stops opens before full fault (want ≡ Err fault)

-- the types that are opened for the side of a name: those that come with its declaration or before its fault, and the
-- side
abbrev pub OpensSide : Option Entry → Result Tree SetFault → Tree → Type 0
OpensSide entry side type = Contains (entry_types entry) type ⊎ (side ≡ Ok type)

-- a name applied to nodes
abbrev pub applied : List Node → QName → List ℕ → Applied
applied nodes q args = record { name = q; args = map (tree nodes) args }

-- a name comes to those that are met, unless it was one of them
pub record Meets (old : List QName) (q : QName) (new : List QName) (fresh : Bool) : Type 0 where
  pub was : list_any (same_name q) old ≡ not fresh
  pub added : fresh ≡ true → new ≡ old ++ q ∷ []

-- the name of the alias at the head, and the types that are opened for it
abbrev pub AsksAlias : Tree → QName → Type 0
AsksAlias type q = IsSomeAnd (alias_use type) (λ head. q ≡ head.name)

abbrev pub OpensAlias : Entries → Tree → Tree → Type 0
OpensAlias entries type opened =
    IsSomeAnd (alias_use type) (λ head. OpensSide (entries head.name) (alias_right entries head) opened)

-- the same of the defined type
abbrev pub AsksDefined : Tree → QName → Type 0
AsksDefined type q = IsSomeAnd (defined_use type) (λ head. q ≡ head.name)

abbrev pub OpensDefined : Entries → Tree → Tree → Type 0
OpensDefined entries type opened =
    IsSomeAnd (defined_use type) (λ head. OpensSide (entries head.name) (defined_right entries head) opened)

-- the types that an expansion comes to, from alias to alias at the head
pub data LeadsTo (entries : Entries) : Tree → Tree → Type 0 where
  itself : (type : Tree) → LeadsTo entries type type
  further : (type : Tree) (head : Applied) (right end : Tree) → alias_use type ≡ Some head
      → alias_right entries head ≡ Ok right → LeadsTo entries right end → LeadsTo entries type end

-- what an expansion asks for and opens on its way
abbrev pub AsksExpanding : Entries → Tree → QName → Type 0
AsksExpanding entries type q = (end : Tree) × LeadsTo entries type end × AsksAlias end q

abbrev pub OpensExpanding : Entries → Tree → Tree → Type 0
OpensExpanding entries type opened = (end : Tree) × LeadsTo entries type end × OpensAlias entries end opened

-- what the underlying type asks for and opens
abbrev pub AsksUnder : Entries → List QName → Tree → QName → Type 0
AsksUnder entries names type q =
    AsksExpanding entries type q ⊎ IsOkAnd (expanded entries names type) (λ found. AsksDefined found q)

abbrev pub OpensUnder : Entries → List QName → Tree → Tree → Type 0
OpensUnder entries names type opened =
    OpensExpanding entries type opened
    ⊎ IsOkAnd (expanded entries names type) (λ found. OpensDefined entries found opened)

-- the alias at the head gave way to its right side
pub record IsLed (entries : Entries) (old : List QName) (type : Tree) (new : List QName) (right : Tree) : Type 0 where
  pub head : Applied
  pub use_is : alias_use type ≡ Some head
  pub fresh : list_any (same_name head.name) old ≡ false
  pub met : new ≡ old ++ head.name ∷ []
  pub right_is : alias_right entries head ≡ Ok right

-- One turn of an expansion: nothing where the head is no alias, and else what stands in its place.
abbrev pub Leads : Entries → List QName → Tree → List QName → Contents → Contents → Option Bool
    → Result (Option ℕ) SetFault → Type 0
Leads entries old type new before after full (Ok None) = alias_use type ≡ None
Leads entries old type new before after full (Ok (Some id)) = IsLed entries old type new (tree after.nodes id)
    × (id < length after.nodes)
Leads entries old type new before after full (Err fault) = Stops (OpensAlias entries type) before full fault
    ((more : List QName → Tree → Result Tree SetFault) → led entries more old type (alias_use type) ≡ Err fault)
