use Rattle.std.proofs.Common.{map, take}
use Rattle.std.specs.List.{All}
use Rattle.std.specs.String.{string_bytes}
use Rattle.command_words.specs.Texts.{IsNameWord}
use Rattle.command_words.proofs.names.NameWords.of.Given as goal

-- the words before the place name names
abbrev pub invariant-loop-k : goal.invariant-loop-k
invariant-loop-k l = All IsNameWord (take l.k (map string_bytes l.words))
