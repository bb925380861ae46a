-- The lines of `check`.
use Rattle.std.specs.Prelude.{ℕ, List, [], ◌∷◌, ◌++◌, cond, length, codes, decimal, Bool, true, false, Option, Some, None, IsSome}
use Rattle.std.specs.List.{flat_map, AllZip}
use Rattle.wire_bytes.specs.FaultText.{fault_text}
use Rattle.go_values.specs.declared.qualified.QName.{QName}
use Rattle.type_terms.specs.declared.descriptors.Node.{Node}
use Rattle.environments.specs.OpenedTypes.{OutgrowsAmong}
use Rattle.name_index.specs.FullFile.{listed}
use Rattle.session_files.specs.Sessions.{Opened, qualified}
use Rattle.dangling_types.specs.NodeReferences.{reference_at}
use Rattle.checked_files.specs.Checking.{Flaw, damaged, dangling, flaw_at, AreSaid, OpensListed}
use Rattle.checked_files.specs.declared.checking.Verdict.{Verdict}
use Rattle.checked_files.specs.declared.checking.Verdict.TheVariants.{Sound, Damaged, Dangles}
use Rattle.decl_text.specs.Printed.{printed}
use Rattle.exportdata_cmd.specs.Printed.{Line, line}
use Rattle.exportdata_cmd.specs.Endings.{Ending, output_end}
use Rattle.exportdata_cmd.specs.Showing.{label}
use Rattle.exportdata_cmd.specs.declared.exits.Status.{Status}
use Rattle.exportdata_cmd.specs.declared.exits.Status.TheVariants.{Done, Refused}
use Rattle.exportdata_cmd.specs.declared.showing.TheConstants.{NODE_LIMIT}

-- what is wrong with a name that the file with this label lists
abbrev pub flaw_line : List ℕ → QName → Flaw → Line
flaw_line file q (damaged fault) = line (printed file ++ codes " " ++ label q ++ codes " damaged " ++ fault_text fault)
flaw_line file q (dangling to) = line (printed file ++ codes " " ++ label q ++ codes " dangling " ++ label to)

abbrev pub flaw_lines : List ℕ → QName → Option Flaw → List Line
flaw_lines file q None = []
flaw_lines file q (Some flaw) = flaw_line file q flaw ∷ []

-- a line for each name of a file that something is wrong with, in the order of its index
abbrev pub bad_lines : List Opened → Opened → List Line
bad_lines files o = flat_map (λ l. flaw_lines o.label (qualified l) (flaw_at files o.file l)) (listed o.file.packages)

-- nothing is wrong with any of so many names
abbrev pub ok_line : List ℕ → ℕ → Line
ok_line file count = line (printed file ++ codes " ok " ++ decimal count)

abbrev pub or_ok : Line → List Line → List Line
or_ok ok [] = ok ∷ []
or_ok ok (bad ∷ more) = bad ∷ more

-- the lines of a file
abbrev pub checked_lines : List Opened → Opened → List Line
checked_lines files o = or_ok (ok_line o.label (length (listed o.file.packages))) (bad_lines files o)

-- Done where no file has a bad name
abbrev pub unless_bad : Status → List Line → Status
unless_bad status [] = status
unless_bad status (bad ∷ more) = Refused

abbrev pub checked_status : List Opened → List Opened → Status
checked_status files [] = Done
checked_status files (o ∷ rest) = unless_bad (checked_status files rest) (bad_lines files o)

-- the end of a run that checks the files of a session, in their order
abbrev pub checked_end : List Opened → Ending
checked_end files = output_end (checked_status files files) (flat_map (checked_lines files) files)

-- The types that come with all that the files list are more than the nodes that a command may have.
abbrev pub AreTooManyListed : List Opened → Type 0
AreTooManyListed files = OutgrowsAmong (OpensListed files) (record { nodes = []; limit = NODE_LIMIT })

-- ---- by verdicts

-- verdicts on the names of all files, file by file
abbrev pub AreSaidOf : List Node → List Opened → List Opened → List (List Verdict) → Type 0
AreSaidOf nodes files some all = AllZip (λ verdicts o. AreSaid nodes files o.file verdicts) all some

-- nothing is wrong
abbrev pub are_sound : List Verdict → Bool
are_sound [] = true
are_sound (Sound ∷ verdicts) = are_sound verdicts
are_sound (Damaged fault ∷ verdicts) = false
are_sound (Dangles id ∷ verdicts) = false

abbrev pub verdict_status : List (List Verdict) → Status
verdict_status [] = Done
verdict_status (verdicts ∷ rest) = cond (are_sound verdicts) (verdict_status rest) Refused

-- the node of a reference that dangles makes one
abbrev pub HasReference : List Node → Verdict → Type 0
HasReference nodes Sound = Unit {0}
HasReference nodes (Damaged fault) = Unit {0}
HasReference nodes (Dangles id) = IsSome (reference_at nodes id)
