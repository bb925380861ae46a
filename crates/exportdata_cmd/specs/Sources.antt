-- The files that a command asks for, and the end of a run where one of them isn't taken in.
use Rattle.std.specs.Prelude.{◌≡◌, ◌⊎◌, List, [], ◌∷◌, map}
use Rattle.std.specs.String.{string_bytes}
use Rattle.command_words.specs.Texts.{Source, source_word}
use Rattle.command_words.specs.Forms.{Request, list, show, check}
use Rattle.name_index.specs.FullFile.{FullFile}
use Rattle.session_files.specs.Sessions.{Opened}
use Rattle.session_files.specs.Loading.{Word as FileWord, full}
use Rattle.session_files.specs.Loading.{Refusal, too_many_files, too_large, missing, failed, damaged}
use Rattle.session_files.specs.declared.loading.LoadError.{LoadError}
use Rattle.session_files.specs.declared.loading.LoadError.TheVariants as errors
use Rattle.exportdata_cmd.specs.Endings.{Ending, missing_end, cannot_read_end, damaged_end, limit_files_end}
use Rattle.exportdata_cmd.specs.Endings.{limit_bytes_end, no_memory_end}

-- the sources of which something is asked
abbrev pub sources_asked : Request → List Source
sources_asked (list source) = source ∷ []
sources_asked (show sources names) = sources
sources_asked (check sources) = sources

-- the full file that a source names, with the source's word for its label
abbrev pub file_asked : Source → FileWord
file_asked source = record { label = source_word source; file = source.file; form = full source.path }

-- the file of a source that is open as this image
abbrev pub opened_as : Source → FullFile → Opened
opened_as source image = record { label = source_word source; file = image }

abbrev pub files_asked : Request → List FileWord
files_asked request = map file_asked (sources_asked request)

-- the end of a run of which a file isn't taken in
abbrev pub refusal_end : Refusal → Ending
refusal_end too_many_files = limit_files_end
refusal_end too_large = limit_bytes_end
refusal_end (missing file) = missing_end file
refusal_end (failed file) = cannot_read_end file
refusal_end (damaged label fault) = damaged_end label fault

-- the end of a run whose files aren't loaded
abbrev pub load_end : LoadError → Ending
load_end (errors.Missing file) = missing_end (string_bytes file)
load_end (errors.Failed file) = cannot_read_end (string_bytes file)
load_end (errors.Damaged label fault) = damaged_end (string_bytes label) fault
load_end errors.TooManyFiles = limit_files_end
load_end errors.TooLarge = limit_bytes_end
load_end errors.OutOfMemory = no_memory_end []

-- The end is that of such a refusal, or memory is wanting.
abbrev pub IsRefusalEnd : (Refusal → Type 0) → Ending → Type 0
IsRefusalEnd Is end = ((refusal : Refusal) × Is refusal × (end ≡ refusal_end refusal)) ⊎ (end ≡ no_memory_end [])
