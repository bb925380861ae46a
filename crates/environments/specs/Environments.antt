-- What environments give for names.
use Rattle.std.specs.Prelude.{◌≡◌, ◌⊎◌, List, [], Bool, true, Option, Some, None, Result, Ok, Err, length}
use Rattle.std.specs.List.{Contains}
use Rattle.go_values.specs.declared.qualified.QName.{QName}
use Rattle.wire_bytes.specs.declared.fault.ByteFault.{ByteFault}
use Rattle.type_terms.specs.declared.declarations.DeclNode.{DeclNode}
use Rattle.type_terms.specs.Trees.{Tree}
use Rattle.type_terms.specs.Arenas.{Contents, AllBelow}
use Rattle.type_terms.specs.Declarations.{Decl, form_types, decl_nodes, decl_of}
use Rattle.environments.specs.declared.given.Given.{Given}
use Rattle.environments.specs.declared.given.Given.TheVariants.{Lent, Made}
use Rattle.environments.specs.declared.declaring.EnvError.{EnvError}
use Rattle.environments.specs.declared.declaring.EnvError.TheVariants.{Unknown, Damaged, TableFull, Nodes, OutOfMemory}

-- What stands behind a name: a declaration, or a fault with the types that were read whole before it.
pub data Entry : Type 0 where
  declared : Decl → Entry
  damaged : ByteFault → List Tree → Entry

-- the types that a call may add to an arena for an entry, with all that stands in them
abbrev pub entry_types : Option Entry → List Tree
entry_types (Some (declared decl)) = form_types decl
entry_types (Some (damaged fault read)) = read
entry_types None = []

abbrev pub given_decl : Given → DeclNode
given_decl (Lent decl) = decl.now
given_decl (Made decl) = decl

-- What an answer for the name q says of the entry, of the arena and of the flag at exit. Each answer comes only so, and
-- they exclude each other; OutOfMemory is free.
abbrev pub Answers : Option Entry → QName → Contents → Option Bool → Result Given EnvError → Type 0
Answers entry q arena full (Ok given) = (entry ≡ Some (declared (decl_of arena.nodes (given_decl given))))
    × AllBelow (length arena.nodes) (decl_nodes (given_decl given))
Answers entry q arena full (Err (Unknown name)) = (entry ≡ None) × (name ≡ q)
Answers entry q arena full (Err (Damaged name fault)) = ((read : List Tree) × (entry ≡ Some (damaged fault read)))
    × (name ≡ q)
Answers entry q arena full (Err TableFull) = full ≡ Some true
Answers entry q arena full (Err Nodes) = length arena.nodes ≡ arena.limit
Answers entry q arena full (Err OutOfMemory) = Unit {0}

-- No other name than q came to the names asked, and none was lost.
abbrev pub AsksOnly : Option (List QName) → QName → Option (List QName) → Type 0
AsksOnly (Some old) q (Some new) = ((name : QName) → Contains new name → Contains old name ⊎ (name ≡ q))
    × ((name : QName) → Contains old name → Contains new name)
AsksOnly None q None = Unit {0}
AsksOnly (Some old) q None = ⊥
AsksOnly None q (Some new) = ⊥
