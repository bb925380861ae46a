use Rattle.std.proofs.Common.{map, take}
use Rattle.std.specs.List.{All}
use Rattle.std.specs.String.{string_bytes}
use Rattle.command_words.specs.Texts.{IsSourceWord}
use Rattle.command_words.proofs.sources.leading_count.Given as goal

-- the words before the place name sources
abbrev pub invariant-loop-k : goal.invariant-loop-k
invariant-loop-k l = All IsSourceWord (take l.k (map string_bytes l.words))
