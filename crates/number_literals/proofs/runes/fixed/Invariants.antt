use Rattle.std.proofs.Common.{◌≡◌, ◌<◌, ◌^◌, drop}
use Rattle.number_literals.specs.RuneReading.{fixed_run}
use Rattle.number_literals.proofs.runes.fixed.Given as goal

abbrev pub invariant-loop-byte : goal.invariant-loop-byte
invariant-loop-byte l = record { small : l.value < 16 ^ l.byte-index; read : fixed_run l.base (drop l.byte-index l.digits) l.value ≡ fixed_run l.base l.digits 0 }
