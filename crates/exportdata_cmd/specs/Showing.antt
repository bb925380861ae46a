-- The lines of `show`.
use Rattle.std.specs.Prelude.{◌≡◌, ℕ, List, [], ◌∷◌, ◌++◌, cond, codes, decimal, map, Option, Some, None}
use Rattle.std.specs.List.{Contains}
use Rattle.wire_bytes.specs.FaultText.{fault_text}
use Rattle.go_values.specs.declared.qualified.QName.{QName}
use Rattle.environments.specs.Environments.{Entry, declared, damaged}
use Rattle.environments.specs.Kept.{OpensBehind}
use Rattle.environments.specs.OpenedTypes.{OutgrowsAmong}
use Rattle.command_words.specs.Texts.{Name}
use Rattle.session_files.specs.Sessions.{Opened, IsNameCount}
use Rattle.session_env.specs.SessionEntries.{session_entries}
use Rattle.asked_names.specs.Finding.{Entries}
use Rattle.asked_names.specs.Counting.{is_declared, declared_among, IsCount}
use Rattle.decl_text.specs.Printed.{printed}
use Rattle.decl_text.specs.DeclText.{decl_text}
use Rattle.exportdata_cmd.specs.Printed.{Line, line}
use Rattle.exportdata_cmd.specs.Endings.{Ending, output_end}
use Rattle.exportdata_cmd.specs.declared.exits.Status.{Status}
use Rattle.exportdata_cmd.specs.declared.exits.Status.TheVariants.{Done, Refused}
use Rattle.exportdata_cmd.specs.declared.showing.TheConstants.{NODE_LIMIT}

-- the names that words name
abbrev pub qualified : Name → QName
qualified name = record { path = name.path; name = name.name }

abbrev pub names_asked : List Name → List QName
names_asked names = map qualified names

abbrev pub label : QName → List ℕ
label q = printed q.path ++ codes ":" ++ printed q.name

-- What is shown of a name behind which nothing stands, a fault, or a declaration; with its line feeds.
abbrev pub answer_text : QName → Option Entry → Line
answer_text q None = line (label q ++ codes " unknown")
answer_text q (Some (damaged fault read)) = line (label q ++ codes " damaged " ++ fault_text fault)
answer_text q (Some (declared decl)) = decl_text q decl

-- what stands behind names, each as one text
abbrev pub answer_texts : Entries → List QName → List Line
answer_texts entries names = map (λ q. answer_text q (entries q)) names

abbrev pub decoded_line : ℕ → ℕ → Line
decoded_line count all = line (codes "decoded " ++ decimal count ++ codes " of " ++ decimal all)

-- Done where each name is declared
abbrev pub shown_status : Entries → List QName → Status
shown_status entries [] = Done
shown_status entries (q ∷ names) = cond (is_declared (entries q)) (shown_status entries names) Refused

-- the end of a run that shows what stands behind names, and says that so many are declared of so many
abbrev pub shown_end : Entries → List QName → ℕ → ℕ → Ending
shown_end entries names count all =
    output_end (shown_status entries names) (answer_texts entries names ++ decoded_line count all ∷ [])

-- What the names are in a session of files, each in their order; how many distinct ones of them are declared, and how
-- many distinct names the files list.
pub record Shows (files : List Opened) (names : List QName) (due : Ending) : Type 0 where
  pub count : ℕ
  pub all : ℕ
  pub decoded : IsCount (declared_among (session_entries files) names) count
  pub listed : IsNameCount files all
  pub shown : due ≡ shown_end (session_entries files) names count all

-- The types that come with what stands behind the names are more than the nodes that a command may have.
abbrev pub AreTooMany : List Opened → List QName → Type 0
AreTooMany files names =
    OutgrowsAmong (OpensBehind (session_entries files) (Contains names)) (record { nodes = []; limit = NODE_LIMIT })
