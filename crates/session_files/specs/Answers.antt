-- What a session has for names and for paths: what the first file has that lists them.
use Rattle.std.specs.Prelude.{ℕ, List, Option, Result, Ok, Err}
use Rattle.std.specs.Option.{option_map}
use Rattle.std.specs.List.{flat_map}
use Rattle.wire_bytes.specs.declared.fault.ByteFault.{ByteFault}
use Rattle.type_terms.specs.Declarations.{Decl}
use Rattle.name_index.specs.FullFile.{FullFile}
use Rattle.decl_spelling.specs.Sections.{Basics}
use Rattle.decl_spelling.specs.Declarations.{FirstFault, decl_at}
use Rattle.decl_spelling.specs.Spelling.{SpellsDecl}
use Rattle.session_files.specs.FileSections.{sections_in}
use Rattle.session_files.specs.Sessions.{Opened, StandsIn}
use Rattle.session_files.specs.Names.{stands_at, comes_down, named_among}

-- a declaration, or the first fault of its bytes
abbrev pub Outcome : Type 0
Outcome = Result Decl ByteFault

-- the declaration that is spelled at an offset of a file, or the first fault of the bytes there
abbrev pub IsOutcomeAt : Basics → FullFile → ℕ → Outcome → Type 0
IsOutcomeAt basics file offset (Ok decl) = SpellsDecl (sections_in file) basics offset decl
IsOutcomeAt basics file offset (Err fault) = FirstFault (sections_in file) basics offset fault

-- The name has this outcome: what stands at its declaration in the first file that lists it, by its number there.
pub record HasOutcome (files : List Opened) (path name : List ℕ) (file number : ℕ) (outcome : Outcome) : Type 0 where
  pub opened : Opened
  pub offset : ℕ
  pub stands : StandsIn files path name file number opened offset
  pub is : IsOutcomeAt (comes_down files) opened.file offset outcome

-- ---- as functions

-- each listed name to its outcome
abbrev pub decls : List Opened → List ℕ → List ℕ → Option Outcome
decls files path name =
    option_map (λ at. decl_at (sections_in at.0) (comes_down files) at.1) (stands_at files path name)

-- each listed path to the name of its package
abbrev pub packages : List Opened → List ℕ → Option (List ℕ)
packages files path = named_among path (flat_map (λ o. o.file.packages) files)
