-- What is due: what a run has to leave, by the words and the files.
use Rattle.std.specs.Prelude.{◌≡◌, ℕ, List, Option, Result, Ok, Err}
use Rattle.outside.specs.Files.{Held}
use Rattle.command_words.specs.Texts.{Word}
use Rattle.command_words.specs.Forms.{Request, list, show, check, IsForm, IsWrongWord}
use Rattle.session_files.specs.Sessions.{Opened}
use Rattle.session_files.specs.Loading.{Refusal, Loads}
use Rattle.exportdata_cmd.specs.Endings.{Ending, output_end, wrong_word_end}
use Rattle.exportdata_cmd.specs.Sources.{files_asked, refusal_end}
use Rattle.exportdata_cmd.specs.Listing.{file_lines}
use Rattle.exportdata_cmd.specs.Showing.{names_asked, Shows}
use Rattle.exportdata_cmd.specs.Checking.{checked_end}
use Rattle.exportdata_cmd.specs.declared.exits.Status.TheVariants.{Done}

-- what the words ask for, or the number of the first wrong word
abbrev pub Asks : List Word → Result Request ℕ → Type 0
Asks words (Ok request) = IsForm words request
Asks words (Err number) = IsWrongWord words number

-- What a session of files yields for a request, a case for each command.
abbrev pub Yields : List Opened → Request → Ending → Type 0
Yields files (list source) due = due ≡ output_end Done (file_lines files)
Yields files (show sources names) due = Shows files (names_asked names) due
Yields files (check sources) due = due ≡ checked_end files

-- what is due, once the files are taken in or the first is refused
abbrev pub DueOf : Request → Result (List Opened) Refusal → Ending → Type 0
DueOf request (Err refusal) due = due ≡ refusal_end refusal
DueOf request (Ok files) due = Yields files request due

-- what is due, once the words are read
abbrev pub DueFor : Result Request ℕ → Option Held → Ending → Type 0
DueFor (Err number) held due = due ≡ wrong_word_end number
DueFor (Ok request) held due =
    (loaded : Result (List Opened) Refusal) × Loads held (files_asked request) loaded × DueOf request loaded due

-- What is due for these words and files.
abbrev pub Due : List Word → Option Held → Ending → Type 0
Due words held due = (asked : Result Request ℕ) × Asks words asked × DueFor asked held due
