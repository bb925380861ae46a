use Rattle.std.proofs.Common.{◌≡◌, map, take}
use Rattle.command_words.specs.Forms.{sources_of}
use Rattle.session_files.specs.Loading.{word_of}
use Rattle.exportdata_cmd.specs.Sources.{file_asked}
use Rattle.exportdata_cmd.proofs.loading.asked_files.Given as goal

-- the files of the sources before the place
abbrev pub invariant-loop-k : goal.invariant-loop-k
invariant-loop-k l = map word_of l.asked.items ≡ map file_asked (take l.k (sources_of l.sources))
