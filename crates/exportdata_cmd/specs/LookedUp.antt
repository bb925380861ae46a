-- What was found for names, as it is shown.
use Rattle.std.specs.Prelude.{◌≡◌, List, [], ◌∷◌, cond, length, Option, Some, None}
use Rattle.go_values.specs.declared.qualified.QName.{QName}
use Rattle.type_terms.specs.declared.descriptors.Node.{Node}
use Rattle.type_terms.specs.Arenas.{AllBelow}
use Rattle.type_terms.specs.Declarations.{decl_nodes, decl_of}
use Rattle.environments.specs.Environments.{Entry, declared, damaged}
use Rattle.session_files.specs.Sessions.{Opened, IsNameCount}
use Rattle.session_env.specs.SessionEntries.{session_entries}
use Rattle.asked_names.specs.Finding.{AreFound}
use Rattle.asked_names.specs.Counting.{declared_among, IsCount, is_here}
use Rattle.asked_names.specs.declared.finding.Found.{Found}
use Rattle.asked_names.specs.declared.finding.Found.TheVariants.{Unknown, Damaged, Declared}
use Rattle.exportdata_cmd.specs.Printed.{Line}
use Rattle.exportdata_cmd.specs.Showing.{answer_text}
use Rattle.exportdata_cmd.specs.declared.showing.Shown.{Shown}
use Rattle.exportdata_cmd.specs.declared.exits.Status.{Status}
use Rattle.exportdata_cmd.specs.declared.exits.Status.TheVariants.{Done, Refused}

-- what was found, as far as it is shown
abbrev pub entry_found : List Node → Found → Option Entry
entry_found nodes Unknown = None
entry_found nodes (Damaged fault) = Some (damaged fault [])
entry_found nodes (Declared node) = Some (declared (decl_of nodes node))

-- what was found for each name, as a text
abbrev pub found_texts : List Node → List QName → List Found → List Line
found_texts nodes [] found = []
found_texts nodes (q ∷ names) [] = []
found_texts nodes (q ∷ names) (one ∷ found) = answer_text q (entry_found nodes one) ∷ found_texts nodes names found

-- Done where each was found to be declared
abbrev pub found_status : List Found → Status
found_status [] = Done
found_status (one ∷ found) = cond (is_here one) (found_status found) Refused

-- the nodes of what was found are nodes of the arena
abbrev pub IsInside : List Node → Found → Type 0
IsInside nodes Unknown = Unit {0}
IsInside nodes (Damaged fault) = Unit {0}
IsInside nodes (Declared node) = AllBelow (length nodes) (decl_nodes node)

-- It is what stands behind these names in a session of files, as nodes of an arena.
pub record IsShown (nodes : List Node) (files : List Opened) (names : List QName) (shown : Shown) : Type 0 where
  pub names_are : shown.names.items ≡ names
  pub found : AreFound nodes (session_entries files) names shown.found.items
  pub declared : IsCount (declared_among (session_entries files) names) shown.tally.declared
  pub listed : IsNameCount files shown.tally.listed
