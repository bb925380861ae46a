use Rattle.std.proofs.Common.{◌≡◌, ◌-◌, ◌+◌, ◌^◌, ◌<◌, length}
use Rattle.string_literals.specs.Escapes.{digits}
use Rattle.string_literals.proofs.escapes.digits.Given as goal

abbrev pub invariant-loop : goal.invariant-loop
invariant-loop l = record {
  small : l.value < 16 ^ l.counter;
  read : digits l.base (l.count - l.counter) l.value l.rest ≡ digits l.base l.count 0 l.text;
  taken : length l.rest + l.counter ≡ length l.text;
}
