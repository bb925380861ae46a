-- How a run ends: as is due, or otherwise for a cause.
use Rattle.std.specs.Prelude.{◌≡◌, ℕ, ◌⊎◌, List, [], take, Option, Ok}
use Rattle.std.specs.List.{concat}
use Rattle.outside.specs.Files.{Held}
use Rattle.outside.specs.Sinks.{SinkState, Wrote, WroteSome}
use Rattle.command_words.specs.Texts.{Word}
use Rattle.command_words.specs.Forms.{Request, list, show, check, IsForm, IsFirstWrong}
use Rattle.session_files.specs.Sessions.{Opened}
use Rattle.session_files.specs.Loading.{failed, IsRefused, Loads}
use Rattle.exportdata_cmd.specs.Printed.{Line}
use Rattle.exportdata_cmd.specs.Endings.{Ending, wrong_word_end, cannot_read_end, limit_nodes_end, no_memory_end}
use Rattle.exportdata_cmd.specs.Sources.{files_asked}
use Rattle.exportdata_cmd.specs.Showing.{names_asked, AreTooMany}
use Rattle.exportdata_cmd.specs.Checking.{AreTooManyListed}
use Rattle.exportdata_cmd.specs.Due.{Due}
use Rattle.exportdata_cmd.specs.declared.exits.Status.{Status}
use Rattle.exportdata_cmd.specs.declared.exits.Status.TheVariants.{Memory, Limit}

-- no line, or the first lines of what is due
abbrev pub AreFirstDue : List Word → Option Held → List Line → Type 0
AreFirstDue words held lines =
    (lines ≡ []) ⊎ ((due : Ending) × (n : ℕ) × Due words held due × (lines ≡ take n due.output))

-- memory is wanting, after the first lines of what is due
pub record IsStarved (words : List Word) (held : Option Held) (end : Ending) : Type 0 where
  pub first : AreFirstDue words held end.output
  pub shown : end ≡ no_memory_end end.output

-- a file that the words ask for couldn't be read, behind others that are taken in, and the count of faults rose
pub record IsUnread (words : List Word) (held : Option Held) (before after : ℕ) (end : Ending) : Type 0 where
  pub request : Request
  pub asked : IsForm words request
  pub file : List ℕ
  pub refused : IsRefused held before after (files_asked request) (failed file)
  pub shown : end ≡ cannot_read_end file

-- the types that come with what is asked for are more than the nodes that a command may have
abbrev pub Outgrows : List Opened → Request → Type 0
Outgrows files (list source) = ⊥
Outgrows files (show sources names) = AreTooMany files (names_asked names)
Outgrows files (check sources) = AreTooManyListed files

-- The words ask something of files that are taken in, and the types that come with it are too many.
pub record IsOutgrown (words : List Word) (held : Option Held) : Type 0 where
  pub request : Request
  pub files : List Opened
  pub asked : IsForm words request
  pub loaded : Loads held (files_asked request) (Ok files)
  pub many : Outgrows files request

-- A run may end so where no sink fails. The count of faults of the files goes from before to after.
abbrev pub MayEnd : List Word → Option Held → ℕ → ℕ → Ending → Type 0
MayEnd words held before after end =
    Due words held end
    ⊎ (IsStarved words held end
    ⊎ (IsUnread words held before after end
    ⊎ (IsOutgrown words held × (end ≡ limit_nodes_end))))

-- The run fell short of what is due: memory is wanting, or the types have too many nodes.
abbrev pub FallsShort : List Word → Option Held → Status → Type 0
FallsShort words held status = (status ≡ Memory) ⊎ ((status ≡ Limit) × IsOutgrown words held)

-- The run ended so: with this status, and with just these lines on both sinks.
pub record EndedAs (end : Ending) (status : Status) (out out_after err err_after : SinkState) : Type 0 where
  pub its_status : status ≡ end.status
  pub on_out : Wrote out out_after (concat end.output)
  pub on_err : Wrote err err_after end.error

-- A sink failed before the run had ended so: `out` within the lines, and `err` has nothing; or `err` within its line,
-- and `out` has all lines.
abbrev pub BrokeOff : Ending → SinkState → SinkState → SinkState → SinkState → Type 0
BrokeOff end out out_after err err_after =
    (WroteSome out out_after (concat end.output) × Wrote err err_after [])
    ⊎ (Wrote out out_after (concat end.output) × WroteSome err err_after end.error)

-- Words that aren't all text may be refused so: the first wrong word is said, or that memory is wanting.
abbrev pub MayRefuse : List Word → Ending → Type 0
MayRefuse words end =
    ((number : ℕ) × IsFirstWrong words number × (end ≡ wrong_word_end number)) ⊎ (end ≡ no_memory_end [])
