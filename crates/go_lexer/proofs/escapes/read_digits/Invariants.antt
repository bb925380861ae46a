use Rattle.std.proofs.Common.{◌≡◌, ◌-◌, ◌^◌, ◌<◌}
use denote.Text.{Utf8}
use denote.Shadow.{shadow}
use Rattle.std.specs.Str.{chars}
use Rattle.go_lexer.specs.Escapes.{digits}
use Rattle.go_lexer.proofs.escapes.read_digits.Given as goal

abbrev pub invariant-loop : goal.invariant-loop
invariant-loop l = shadow (Utf8 l.rest) × (l.value < 16 ^ l.counter) × (digits l.base (l.count - l.counter) l.value (chars l.rest) ≡ digits l.base l.count 0 (chars l.text))
