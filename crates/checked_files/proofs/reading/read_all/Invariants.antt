use Rattle.std.proofs.Common.{map}
use Rattle.checked_files.proofs.ReadingLemmas.{FilesReadSoFar}
use Rattle.checked_files.proofs.reading.read_all.Given as goal

-- the files before the number were read
abbrev pub invariant-loop-file : goal.invariant-loop-file
invariant-loop-file l = FilesReadSoFar l.session l.file (map (λ reads. reads.items) l.all.items) l.fn.arena l.arena
