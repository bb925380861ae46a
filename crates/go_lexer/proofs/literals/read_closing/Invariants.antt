use Rattle.std.proofs.Common.{◌≡◌, length}
use denote.Text.{Utf8}
use denote.Shadow.{shadow}
use Rattle.std.specs.Str.{chars}
use Rattle.go_lexer.specs.Literals.{closing}
use Rattle.go_lexer.proofs.literals.read_closing.Given as goal

abbrev pub invariant-loop-after : goal.invariant-loop-after
invariant-loop-after l = shadow (Utf8 l.rest) × (closing (length (chars l.rest)) (chars l.rest) ≡ closing (length (chars l.inside)) (chars l.inside))

abbrev pub decreases-loop-after : goal.decreases-loop-after
decreases-loop-after l = length (chars l.rest)
