use Rattle.std.proofs.Common.{◌≡◌, ◌<◌, ◌^◌, drop}
use Rattle.number_literals.specs.Reading.{run}
use Rattle.number_literals.proofs.digits.read.Given as goal

abbrev pub invariant-loop-byte : goal.invariant-loop-byte
invariant-loop-byte l = record { small : l.value < 2 ^ 127; read : run l.base (drop l.byte-index l.digits) l.value ≡ run l.base l.digits 0 }
