-- The first faults of files, code by code, and the trees of the others.
use Rattle.std.specs.Prelude.{◌≡◌, ℕ, List, [], ◌∷◌, Option, Some, None, Result, Ok, Err, flat_map}
use Rattle.std.specs.List.{AllByRecursion}
use Rattle.go_syntax.specs.declared.tree.SourceFile.{SourceFile}
use Rattle.refusal_codes.specs.Codes.{order_of}
use Rattle.refusal_codes.specs.declared.codes.Code.{Code}
use Rattle.refusal_codes.specs.declared.codes.Code.TheVariants as code
use Rattle.source_places.specs.declared.places.Found.{Found}
use Rattle.source_places.specs.declared.stages.StageError.{StageError}
use Rattle.source_places.specs.declared.stages.StageError.TheVariants.{Refused, Failed}
use Rattle.source_places.specs.Places.{earlier, least}
use Rattle.source_places.specs.Stages.{IsRefusal}
use Rattle.source_walk.specs.declared.parsed.ParsedFile.{ParsedFile}
use Rattle.parsed_files.specs.declared.faults.FileFault.{FileFault}
use Rattle.parsed_files.specs.declared.faults.FileFault.TheVariants as fault
use Rattle.parsed_files.specs.declared.faults.FaultAt.{FaultAt}
use Rattle.parsed_files.specs.declared.faults.FileError.{FileError}
use Rattle.parsed_files.specs.declared.faults.FileError.TheVariants as error
use Rattle.parsed_files.specs.declared.first_faults.FirstFaults.{FirstFaults}
use Rattle.parsed_files.specs.Outcomes.{outcome, placed}

abbrev pub no_faults : FirstFaults
no_faults = record { lex = None; syntax = None; left_out = None }

-- with what was found, by its cause
abbrev pub with_fault : FirstFaults → FileFault → Found FileFault → FirstFaults
with_fault first (fault.Lex f) found = record first { lex = earlier first.lex (Some found) }
with_fault first fault.Unexpected found = record first { syntax = earlier first.syntax (Some found) }
with_fault first (fault.LeftOut what) found = record first { left_out = earlier first.left_out (Some found) }

-- each is the first of the places of its code
pub record AreFirst (places : Code → List (Found FileFault)) (first : FirstFaults) : Type 0 where
  pub lex : first.lex ≡ least (places code.Lex)
  pub syntax : first.syntax ≡ least (places code.Syntax)
  pub left_out : first.left_out ≡ least (places code.LeftOut)

-- the refusal by these places, unless memory ran out
abbrev pub IsRefusedBy : {E : Type 0} → (Code → List (Found FileFault)) → StageError Code FileFault E → Type 0
IsRefusedBy places (Refused r) = IsRefusal order_of places r
IsRefusedBy places (Failed e) = Unit {0}

-- ---- trees

abbrev pub parsed : ParsedFile → List ℕ × SourceFile
parsed file = (file.source.now, file.tree)

abbrev pub tree_if_any : List ℕ → Result SourceFile FileError → List (List ℕ × SourceFile)
tree_if_any source (Ok tree) = (source, tree) ∷ []
tree_if_any source (Err e) = []

-- the sources that have trees, with these
abbrev pub trees_of : List (List ℕ) → List (List ℕ × SourceFile)
trees_of sources = flat_map (λ source. tree_if_any source (outcome source)) sources

-- it is no want of memory
abbrev pub IsTold : Result SourceFile FileError → Type 0
IsTold (Err error.OutOfMemory) = ⊥
IsTold _ = Unit {0}

abbrev pub AllTold : List (List ℕ) → Type 0
AllTold sources = AllByRecursion (λ source. IsTold (outcome source)) sources
