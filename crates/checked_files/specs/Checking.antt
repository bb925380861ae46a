-- What is wrong with the names that the files of a session list.
use Rattle.std.specs.Prelude.{◌≡◌, List, Option, Some, None, Result, Ok, Err}
use Rattle.std.specs.Option.{option_map}
use Rattle.std.specs.List.{AllZip, Contains}
use Rattle.go_values.specs.declared.qualified.QName.{QName}
use Rattle.wire_bytes.specs.declared.fault.ByteFault.{ByteFault}
use Rattle.type_terms.specs.declared.descriptors.Node.{Node}
use Rattle.type_terms.specs.Trees.{Tree}
use Rattle.type_terms.specs.Declarations.{Decl}
use Rattle.environments.specs.declared.mentions.Reference.{Reference}
use Rattle.name_index.specs.FullFile.{FullFile, Listed, listed}
use Rattle.decl_spelling.specs.Declarations.{decl_at}
use Rattle.decl_spelling.specs.Leaving.{types_read}
use Rattle.dangling_references.specs.Dangling.{Entries}
use Rattle.dangling_types.specs.FirstDangling.{dangling_in}
use Rattle.dangling_types.specs.NodeReferences.{reference_at}
use Rattle.session_files.specs.FileSections.{sections_in}
use Rattle.session_files.specs.Sessions.{Opened}
use Rattle.session_files.specs.Names.{comes_down}
use Rattle.session_env.specs.SessionEntries.{session_entries}
use Rattle.checked_files.specs.declared.checking.Verdict.{Verdict}
use Rattle.checked_files.specs.declared.checking.Verdict.TheVariants.{Sound, Damaged, Dangles}

-- a declaration that is spelled, or the first fault
abbrev pub Outcome : Type 0
Outcome = Result Decl ByteFault

-- Its bytes spell no declaration, or the first reference that dangles is to this name.
pub data Flaw : Type 0 where
  damaged : ByteFault → Flaw
  dangling : QName → Flaw

-- what is wrong with a declaration, if anything is
abbrev pub flaw_of : Entries → Outcome → Option Flaw
flaw_of entries (Ok decl) = option_map (λ r. dangling r.name) (dangling_in entries decl)
flaw_of entries (Err fault) = Some (damaged fault)

-- what a file itself spells for a name that it lists
abbrev pub outcome_at : List Opened → FullFile → Listed → Outcome
outcome_at files file l = decl_at (sections_in file) (comes_down files) l.offset

-- What is wrong with it. References are tried against the first file that lists them.
abbrev pub flaw_at : List Opened → FullFile → Listed → Option Flaw
flaw_at files file l = flaw_of (session_entries files) (outcome_at files file l)

-- ---- what is answered

-- a verdict on a name says what is wrong with it
abbrev pub Says : List Node → Verdict → Option Flaw → Type 0
Says nodes Sound flaw = flaw ≡ None
Says nodes (Damaged fault) flaw = flaw ≡ Some (damaged fault)
Says nodes (Dangles id) flaw = (r : Reference) × (reference_at nodes id ≡ Some r) × (flaw ≡ Some (dangling r.name))

-- so the verdicts on all names that a file lists, in the order of its index
abbrev pub AreSaid : List Node → List Opened → FullFile → List Verdict → Type 0
AreSaid nodes files file verdicts =
    AllZip (λ verdict l. Says nodes verdict (flaw_at files file l)) verdicts (listed file.packages)

-- the types that come with what a file lists, or before its faults
abbrev pub OpensIn : List Opened → FullFile → Tree → Type 0
OpensIn files file type = (l : Listed) × Contains (listed file.packages) l
    × Contains (types_read (sections_in file) (comes_down files) l.offset) type

abbrev pub OpensListed : List Opened → Tree → Type 0
OpensListed files type = (o : Opened) × Contains files o × OpensIn files o.file type
