use Rattle.checked_files.proofs.ReadingLemmas.{ReadSoFar}
use Rattle.checked_files.proofs.reading.read_file.Given as goal

-- the names before the number were read
abbrev pub invariant-loop-number : goal.invariant-loop-number
invariant-loop-number l = ReadSoFar l.session l.image l.number l.reads.items l.reader l.fn.arena l.arena
