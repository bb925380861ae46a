-- What opening a file answers.
use Rattle.std.specs.Prelude.{◌≡◌, ℕ, List, map, Result, Ok, Err}
use Rattle.file_parts.specs.declared.parts.Parts.{Parts}
use Rattle.file_parts.specs.declared.parts.FileForm.TheVariants.{Full}
use Rattle.file_parts.specs.Paths.{meant}
use Rattle.file_parts.specs.FileParts.{paths_of}
use Rattle.name_index.specs.Envelope.{Envelope}
use Rattle.wire_bytes.specs.declared.fault.ReadFault.{ReadFault}
use Rattle.wire_bytes.specs.declared.fault.ReadFault.TheVariants as errors
use Rattle.name_index.specs.FullFile.{FullFile}
use Rattle.name_index.specs.FirstBreach.{FirstBreach}

-- an error that speaks of the bytes names the first breach
abbrev pub NamesBreach : List ℕ → List ℕ → ReadFault → Type 0
NamesBreach own bytes (errors.Bytes f) = FirstBreach own bytes f
NamesBreach own bytes errors.OutOfMemory = Unit {0}

-- this file was opened, unless memory ran out
abbrev pub Opens : Result FullFile ReadFault → FullFile → Type 0
Opens (Ok image) file = image ≡ file
Opens (Err errors.OutOfMemory) file = Unit {0}
Opens (Err (errors.Bytes f)) file = ⊥

-- The parts of an open file: its own path is the one under which it is a full file, and each path that is spelled in
-- its index stands for the path of that package.
pub record ArePartsOf (file : FullFile) (p : Parts) : Type 0 where
  pub bytes : p.file.now ≡ file.bytes
  pub strings_at : p.strings_at ≡ file.strings.at
  pub strings_len : p.strings_len ≡ file.strings.len
  pub body_at : p.body_at ≡ file.body.at
  pub body_len : p.body_len ≡ file.body.len
  pub version : p.version ≡ file.version
  pub form : p.form ≡ Full
  pub own : Envelope p.own.now file.bytes file
  pub paths : map (meant p.own.now) (paths_of p) ≡ map (λ q. q.path) file.packages
