-- What a run leaves: its status, and the lines on its sinks. The ends that come of one error line.
use Rattle.std.specs.Prelude.{ℕ, List, [], ◌++◌, codes, decimal}
use Rattle.std.specs.String.{string_bytes}
use Rattle.wire_bytes.specs.FaultText.{fault_text}
use Rattle.wire_bytes.specs.declared.fault.ByteFault.{ByteFault}
use Rattle.decl_text.specs.Printed.{printed}
use Rattle.exportdata_cmd.specs.Printed.{Line, line}
use Rattle.exportdata_cmd.specs.declared.exits.Status.{Status}
use Rattle.exportdata_cmd.specs.declared.exits.Status.TheVariants.{Refused, Words, Files, Memory, Limit}
use Rattle.exportdata_cmd.specs.declared.error_line.ErrorLine.{ErrorLine}
use Rattle.exportdata_cmd.specs.declared.error_line.ErrorLine.TheVariants as errors

-- the status, the lines on the output, and the line on the error output, empty where there is none
pub record Ending : Type 0 where
  pub status : Status
  pub output : List Line
  pub error : Line

-- lines on the output alone
abbrev pub output_end : Status → List Line → Ending
output_end status lines = record { status = status; output = lines; error = [] }

-- a line of this text on the error output alone
abbrev pub error_end : Status → List ℕ → Ending
error_end status text = record { status = status; output = []; error = line text }

-- the word of this number is wrong
abbrev pub wrong_word_end : ℕ → Ending
wrong_word_end number = error_end Words (codes "word " ++ decimal number ++ codes " is wrong")

-- there is no such file
abbrev pub missing_end : List ℕ → Ending
missing_end file = error_end Refused (codes "missing " ++ printed file)

-- the file couldn't be read
abbrev pub cannot_read_end : List ℕ → Ending
cannot_read_end file = error_end Files (codes "cannot read " ++ printed file)

-- the file with this label has a fault
abbrev pub damaged_end : List ℕ → ByteFault → Ending
damaged_end label fault = error_end Refused (printed label ++ codes ": " ++ fault_text fault)

-- there are too many files
abbrev pub limit_files_end : Ending
limit_files_end = error_end Limit (codes "limit files")

-- a file is too long, or all of them together are
abbrev pub limit_bytes_end : Ending
limit_bytes_end = error_end Limit (codes "limit bytes")

-- types have too many nodes
abbrev pub limit_nodes_end : Ending
limit_nodes_end = error_end Limit (codes "limit nodes")

-- memory is wanting, after these lines on the output
abbrev pub no_memory_end : List Line → Ending
no_memory_end lines = record (error_end Memory (codes "no memory")) { output = lines }

-- the end that an error line makes
abbrev pub end_of : ErrorLine → Ending
end_of (errors.WrongWord number) = wrong_word_end number
end_of (errors.Missing file) = missing_end (string_bytes file)
end_of (errors.CannotRead file) = cannot_read_end (string_bytes file)
end_of (errors.Damaged label fault) = damaged_end (string_bytes label) fault
end_of errors.LimitFiles = limit_files_end
end_of errors.LimitBytes = limit_bytes_end
end_of errors.LimitNodes = limit_nodes_end
end_of errors.NoMemory = no_memory_end []
