-- What was read of the files of a session, as nodes of an arena.
use Rattle.std.specs.Prelude.{◌≡◌, List, length, Option, None, Ok, Err}
use Rattle.std.specs.List.{AllZip}
use Rattle.type_terms.specs.declared.descriptors.Node.{Node}
use Rattle.type_terms.specs.Arenas.{AllBelow}
use Rattle.type_terms.specs.Declarations.{decl_nodes, decl_of}
use Rattle.environments.specs.Roles.{role_of}
use Rattle.environments.specs.declared.mentions.Role.{Role}
use Rattle.name_index.specs.FullFile.{FullFile, listed}
use Rattle.session_files.specs.Sessions.{Opened}
use Rattle.dangling_references.specs.Dangling.{Entries}
use Rattle.checked_files.specs.Checking.{Outcome, outcome_at, flaw_of, Says}
use Rattle.checked_files.specs.declared.checking.Verdict.{Verdict}
use Rattle.checked_files.specs.declared.reading.Read.{Read}
use Rattle.checked_files.specs.declared.reading.Read.TheVariants.{Spelled, Damaged}

abbrev pub outcome : List Node → Read → Outcome
outcome nodes (Spelled node) = Ok (decl_of nodes node)
outcome nodes (Damaged fault) = Err fault

-- the nodes of what was read are nodes of the arena
abbrev pub IsInside : List Node → Read → Type 0
IsInside nodes (Spelled node) = AllBelow (length nodes) (decl_nodes node)
IsInside nodes (Damaged fault) = Unit {0}

-- It is what the bytes at an offset spell.
pub record IsReadAs (nodes : List Node) (read : Read) (is : Outcome) : Type 0 where
  pub same : outcome nodes read ≡ is
  pub inside : IsInside nodes read

-- what was read of a file, name by name
abbrev pub IsReadOf : List Node → List Opened → FullFile → List Read → Type 0
IsReadOf nodes files file reads =
    AllZip (λ read l. IsReadAs nodes read (outcome_at files file l)) reads (listed file.packages)

abbrev pub AreRead : List Node → List Opened → List (List Read) → Type 0
AreRead nodes files all = AllZip (λ reads o. IsReadOf nodes files o.file reads) all files

-- the role in which a name may be used for which this was read
abbrev pub role_in : Outcome → Option Role
role_in (Ok decl) = role_of decl
role_in (Err fault) = None

-- a verdict on what was read
abbrev pub Judges : List Node → Entries → Read → Verdict → Type 0
Judges nodes entries read verdict = Says nodes verdict (flaw_of entries (outcome nodes read))
