-- What the steps of a run leave on `out`, and what is then still owed to `err`.
use Rattle.std.specs.Prelude.{◌≡◌, ℕ, ◌⊎◌, List, [], take, Option, Result, Ok, Err}
use Rattle.std.specs.List.{concat}
use Rattle.outside.specs.Files.{Held}
use Rattle.outside.specs.Sinks.{SinkState, Wrote, WroteSome}
use Rattle.command_words.specs.Texts.{Word}
use Rattle.command_words.specs.Forms.{Request, IsForm}
use Rattle.session_files.specs.Sessions.{Opened}
use Rattle.session_files.specs.Loading.{Loads}
use Rattle.exportdata_cmd.specs.Printed.{Line}
use Rattle.exportdata_cmd.specs.Endings.{Ending, output_end, no_memory_end, end_of}
use Rattle.exportdata_cmd.specs.Sources.{files_asked}
use Rattle.exportdata_cmd.specs.Due.{Yields}
use Rattle.exportdata_cmd.specs.Running.{AreFirstDue, Outgrows, MayEnd}
use Rattle.exportdata_cmd.specs.declared.exits.Status.{Status}
use Rattle.exportdata_cmd.specs.declared.exits.Status.TheVariants.{Output as OutputStatus}
use Rattle.exportdata_cmd.specs.declared.error_line.ErrorLine.{ErrorLine}
use Rattle.exportdata_cmd.specs.declared.error_line.ErrorLine.TheVariants as errors
use Rattle.exportdata_cmd.specs.declared.command.Stop.{Stop}
use Rattle.exportdata_cmd.specs.declared.command.Stop.TheVariants.{Output, Error}

-- WHAT A SESSION YIELDS

-- all lines stand on `out`
abbrev pub Finished : List Opened → Request → Status → SinkState → SinkState → Type 0
Finished files request status before after =
    (lines : List Line) × Yields files request (output_end status lines) × Wrote before after (concat lines)

-- `out` failed within the lines
abbrev pub Broken : List Opened → Request → SinkState → SinkState → Type 0
Broken files request before after =
    (status : Status) × (lines : List Line) × Yields files request (output_end status lines)
    × WroteSome before after (concat lines)

-- memory is wanting after the first lines, or types have too many nodes and nothing was put
abbrev pub Halted : List Opened → Request → ErrorLine → SinkState → SinkState → Type 0
Halted files request errors.NoMemory before after =
    (lines : List Line) × Wrote before after (concat lines)
    × ((lines ≡ []) ⊎ ((due : Ending) × (n : ℕ) × Yields files request due × (lines ≡ take n due.output)))
Halted files request errors.LimitNodes before after = Outgrows files request × Wrote before after []
Halted files request _ before after = ⊥

abbrev pub Answered : List Opened → Request → Result Status Stop → SinkState → SinkState → Type 0
Answered files request (Ok status) before after = Finished files request status before after
Answered files request (Err Output) before after = Broken files request before after
Answered files request (Err (Error error)) before after = Halted files request error before after

-- WHAT THE WORDS ASK FOR

-- the words ask this of these files, which are taken in
pub record IsLoaded (words : List Word) (held : Option Held) (request : Request) (files : List Opened) : Type 0 where
  pub asked : IsForm words request
  pub loaded : Loads held (files_asked request) (Ok files)

-- an error line is due after these lines
pub record Owes (words : List Word) (held : Option Held) (faults faults_after : ℕ) (error : ErrorLine)
    (before after : SinkState) : Type 0 where
  pub lines : List Line
  pub ends : MayEnd words held faults faults_after (record (end_of error) { output = lines })
  pub first : AreFirstDue words held lines
  pub wrote : Wrote before after (concat lines)

abbrev pub Carried : List Word → Option Held → ℕ → ℕ → Result Status Stop → SinkState → SinkState → Type 0
Carried words held faults faults_after (Ok status) before after =
    (request : Request) × (files : List Opened) × IsLoaded words held request files
    × Finished files request status before after
Carried words held faults faults_after (Err Output) before after =
    (request : Request) × (files : List Opened) × IsLoaded words held request files
    × Broken files request before after
Carried words held faults faults_after (Err (Error error)) before after =
    Owes words held faults faults_after error before after

-- THE ERROR LINE

-- The end's error line was put, or a part of it where the sink failed.
abbrev pub Reports : Ending → Status → SinkState → SinkState → Type 0
Reports end status before after =
    ((status ≡ end.status) × Wrote before after end.error)
    ⊎ ((status ≡ OutputStatus) × WroteSome before after end.error)

-- an error line was reported, or in its place that memory is wanting
abbrev pub ReportsOf : ErrorLine → Status → SinkState → SinkState → Type 0
ReportsOf error status before after =
    (end : Ending) × ((end ≡ end_of error) ⊎ (end ≡ no_memory_end [])) × Reports end status before after
