use Rattle.std.proofs.Common.{◌≡◌, map, drop}
use Rattle.std.specs.FinMap.{get, find}
use Rattle.std.specs.Ordering.{nat_cmp}
use Rattle.std.specs.Cmp.Lexicographic.{slice_cmp}
use Rattle.outside.specs.MemoryFiles.{texts}
use Rattle.outside.proofs.memory_files.MemoryFiles.body_of.Given as goal

-- the files before the index don't have the name
abbrev pub invariant-loop-key : goal.invariant-loop-key
invariant-loop-key l = get l.self.files l.name ≡ find (slice_cmp nat_cmp) l.name (map texts (drop l.key-index l.key-items))
