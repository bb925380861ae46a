-- What the names are that are asked for, over what an environment has for names.
use Rattle.std.specs.Prelude.{◌≡◌, List, [], ◌∷◌, length, Option, Some, None, Result, Ok, Err}
use Rattle.go_values.specs.declared.qualified.QName.{QName}
use Rattle.type_terms.specs.declared.descriptors.Node.{Node}
use Rattle.type_terms.specs.Trees.{Tree}
use Rattle.type_terms.specs.Arenas.{AllBelow}
use Rattle.type_terms.specs.Declarations.{decl_nodes, decl_of}
use Rattle.environments.specs.Environments.{Entry, declared, damaged, given_decl}
use Rattle.environments.specs.declared.given.Given.{Given}
use Rattle.dangling_references.specs.declared.fault.AskFault.{AskFault}
use Rattle.dangling_references.specs.declared.fault.AskFault.TheVariants.{OutOfMemory}
use Rattle.asked_names.specs.declared.finding.Found.{Found}
use Rattle.asked_names.specs.declared.finding.Found.TheVariants.{Unknown, Damaged, Declared}

-- what stands behind each name
abbrev pub Entries : Type 0
Entries = QName → Option Entry

-- What was found is what stands there, as nodes of an arena.
abbrev pub IsFound : List Node → Option Entry → Found → Type 0
IsFound nodes entry Unknown = entry ≡ None
IsFound nodes entry (Damaged fault) = (read : List Tree) × (entry ≡ Some (damaged fault read))
IsFound nodes entry (Declared node) =
    (entry ≡ Some (declared (decl_of nodes node))) × AllBelow (length nodes) (decl_nodes node)

-- what was found for each name
abbrev pub AreFound : List Node → Entries → List QName → List Found → Type 0
AreFound nodes entries [] [] = Unit {0}
AreFound nodes entries (q ∷ names) (one ∷ found) = IsFound nodes (entries q) one × AreFound nodes entries names found
AreFound nodes entries _ _ = ⊥

-- a declaration that was given, or no memory for it
abbrev pub IsCopied : Given → Result Found AskFault → Type 0
IsCopied given (Ok found) = found ≡ Declared (given_decl given)
IsCopied given (Err fault) = fault ≡ OutOfMemory
