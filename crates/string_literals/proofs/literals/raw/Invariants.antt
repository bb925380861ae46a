use Rattle.std.proofs.Common.{◌≡◌, ◌++◌, drop}
use Rattle.string_literals.specs.Values.{raw_text}
use Rattle.string_literals.proofs.literals.raw.Given as goal

abbrev pub invariant-loop-byte : goal.invariant-loop-byte
invariant-loop-byte l = l.value.items ++ raw_text (drop l.byte-index l.inside) ≡ raw_text l.inside
