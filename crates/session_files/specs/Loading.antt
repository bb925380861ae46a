-- What comes of taking files in.
use Rattle.std.specs.Prelude.{◌≡◌, ℕ, ◌+◌, ◌<◌, ◌≤◌, List, [], ◌∷◌, ◌++◌, length, Option, None, Some, IfSome}
use Rattle.std.specs.Prelude.{Result, Ok, Err}
use Rattle.std.specs.List.{AllByRecursion}
use Rattle.std.specs.FinMap.{get}
use Rattle.std.specs.String.{string_bytes}
use Rattle.outside.specs.Counts.{Rose}
use Rattle.outside.specs.Files.{Held, IsLonger}
use Rattle.wire_bytes.specs.declared.fault.ByteFault.{ByteFault}
use Rattle.wire_bytes.specs.declared.fault.ReadFault.{ReadFault}
use Rattle.wire_bytes.specs.declared.fault.ReadFault.TheVariants as faults
use Rattle.name_index.specs.FullFile.{FullFile}
use Rattle.name_index.specs.Envelope.{Envelope}
use Rattle.name_index.specs.FirstBreach.{FirstBreach}
use Rattle.name_index.specs.declared.limits.TheConstants.{FILE_LIMIT}
use Rattle.session_files.specs.Sessions.{Opened}
use Rattle.session_files.specs.declared.limits.TheConstants.{MOST_FILES, MOST_BYTES}
use Rattle.session_files.specs.declared.sources.Content.{Content}
use Rattle.session_files.specs.declared.sources.Content.TheVariants.{Full}
use Rattle.session_files.specs.declared.sources.Source.{Source}
use Rattle.session_files.specs.declared.loading.LoadError.{LoadError}
use Rattle.session_files.specs.declared.loading.LoadError.TheVariants as errors

-- what a file is to hold: a full file of a package's path
pub data Form : Type 0 where
  full : List ℕ → Form

-- a file that is asked for, and the text by which messages name it
pub record Word : Type 0 where
  pub label : List ℕ
  pub file : List ℕ
  pub form : Form

abbrev pub form_of : Content → Form
form_of (Full path) = full path.now

abbrev pub word_of : Source → Word
word_of source = record { label = source.label.now; file = source.file.now; form = form_of source.content }

-- the file has this body, or none, where the files are told
abbrev pub HasBody : Option Held → List ℕ → Option (List ℕ) → Type 0
HasBody held file body = IfSome held (λ files. get files file ≡ body)

-- the file is longer than one may be, where the files are told
abbrev pub IsTooLong : Option Held → List ℕ → Type 0
IsTooLong held file = IfSome held (λ files. IsLonger (get files file) FILE_LIMIT)

-- the file has these bytes, which aren't too many
pub record HasBytes (held : Option Held) (file bytes : List ℕ) : Type 0 where
  pub body : HasBody held file (Some bytes)
  pub short : length bytes ≤ FILE_LIMIT

-- the bytes are a file of the form
abbrev pub IsFile : Form → FullFile → Type 0
IsFile (full path) file = Envelope path file.bytes file

-- the bytes are none, and this is the first breach
abbrev pub IsBreach : Form → List ℕ → ByteFault → Type 0
IsBreach (full path) bytes fault = FirstBreach path bytes fault

abbrev pub IsReadFault : Form → List ℕ → ReadFault → Type 0
IsReadFault form bytes (faults.Bytes fault) = IsBreach form bytes fault
IsReadFault form bytes faults.OutOfMemory = Unit {0}

-- these bytes are the file of the word
pub record IsOpenAs (word : Word) (bytes : List ℕ) (o : Opened) : Type 0 where
  pub label : o.label ≡ word.label
  pub bytes_are : o.file.bytes ≡ bytes
  pub is : IsFile word.form o.file

-- the file that a word asks for
pub record Opens (held : Option Held) (word : Word) (o : Opened) : Type 0 where
  pub bytes : List ℕ
  pub has : HasBytes held word.file bytes
  pub open_as : IsOpenAs word bytes o

-- the bytes of all files
abbrev pub total : List Opened → ℕ
total [] = 0
total (o ∷ os) = length o.file.bytes + total os

abbrev pub OpenEach : Option Held → List Word → List Opened → Type 0
OpenEach held [] [] = Unit {0}
OpenEach held (w ∷ ws) (o ∷ os) = Opens held w o × OpenEach held ws os
OpenEach held _ _ = ⊥

-- The files that the words ask for, in their order, are no more and no longer than a session may have.
pub record AreTaken (held : Option Held) (words : List Word) (files : List Opened) : Type 0 where
  pub each : OpenEach held words files
  pub few : length files ≤ MOST_FILES
  pub small : total files ≤ MOST_BYTES

-- why a file isn't taken in
pub data Refusal : Type 0 where
  too_many_files : Refusal
  too_large : Refusal
  missing : List ℕ → Refusal
  failed : List ℕ → Refusal
  damaged : List ℕ → ByteFault → Refusal

-- why a file isn't fetched, where the count of faults was and is these
abbrev pub IsUnfetched : Option Held → ℕ → ℕ → List ℕ → Refusal → Type 0
IsUnfetched held before after file (missing name) = HasBody held file None × (name ≡ file)
IsUnfetched held before after file (failed name) = Rose before after × (name ≡ file)
IsUnfetched held before after file too_large = IsTooLong held file
IsUnfetched held before after file _ = ⊥

-- these bytes are no file of the word
abbrev pub IsSpoilt : Word → List ℕ → Refusal → Type 0
IsSpoilt word bytes (damaged label fault) = IsBreach word.form bytes fault × (label ≡ word.label)
IsSpoilt word bytes _ = ⊥

-- Why the file of a word isn't taken in after others: it would be one too many; it isn't fetched, where the count of
-- faults was and is these; all together would be too long; or its bytes are none of its form.
pub data Refuses (held : Option Held) (before after : ℕ) (files : List Opened) (word : Word) : Refusal → Type 0 where
  one_too_many : MOST_FILES ≤ length files → Refuses held before after files word too_many_files
  unfetched : (refusal : Refusal) → length files < MOST_FILES → IsUnfetched held before after word.file refusal
      → Refuses held before after files word refusal
  too_long : (bytes : List ℕ) → length files < MOST_FILES → HasBytes held word.file bytes
      → MOST_BYTES < total files + length bytes
      → Refuses held before after files word too_large
  spoilt : (refusal : Refusal) (bytes : List ℕ) → length files < MOST_FILES → HasBytes held word.file bytes
      → total files + length bytes ≤ MOST_BYTES
      → IsSpoilt word bytes refusal
      → Refuses held before after files word refusal

-- The first word whose file isn't taken in, and why.
pub record IsRefused (held : Option Held) (before after : ℕ) (words : List Word) (refusal : Refusal) : Type 0 where
  pub front : List Word
  pub word : Word
  pub rest : List Word
  pub files : List Opened
  pub stands : words ≡ front ++ word ∷ rest
  pub taken : AreTaken held front files
  pub refused : Refuses held before after files word refusal

-- What comes of taking in the files of some words, where no fetch fails: they are open, or the first is refused.
abbrev pub Loads : Option Held → List Word → Result (List Opened) Refusal → Type 0
Loads held words (Ok files) = AreTaken held words files
Loads held words (Err refusal) = IsRefused held 0 0 words refusal

-- each file holds bytes
abbrev pub HoldBytes : Held → Type 0
HoldBytes files = (file bytes : List ℕ) → get files file ≡ Some bytes → AllByRecursion (λ b. b < 256) bytes

-- what an error says of the files of a session; want of memory is free
abbrev pub IsCause : (Refusal → Type 0) → LoadError → Type 0
IsCause Is (errors.Missing file) = Is (missing (string_bytes file))
IsCause Is (errors.Failed file) = Is (failed (string_bytes file))
IsCause Is (errors.Damaged label fault) = Is (damaged (string_bytes label) fault)
IsCause Is errors.TooManyFiles = Is too_many_files
IsCause Is errors.TooLarge = Is too_large
IsCause Is errors.OutOfMemory = Unit {0}
