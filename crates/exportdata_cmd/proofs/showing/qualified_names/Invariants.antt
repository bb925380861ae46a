use Rattle.std.proofs.Common.{◌≡◌, take}
use Rattle.command_words.specs.Forms.{names_of}
use Rattle.exportdata_cmd.specs.Showing.{names_asked}
use Rattle.exportdata_cmd.proofs.showing.qualified_names.Given as goal

-- the names before the place
abbrev pub invariant-loop-k : goal.invariant-loop-k
invariant-loop-k l = l.names.items ≡ names_asked (take l.k (names_of l.words))
