use Rattle.std.proofs.Common.{◌≡◌, ◌≤◌, length}
use denote.Text.{Utf8}
use denote.Shadow.{shadow}
use Rattle.std.specs.Str.{chars}
use Rattle.go_lexer.specs.Characters.{after_while}
use Rattle.go_lexer.specs.Classes.{in_class}
use Rattle.go_lexer.proofs.classes.after_run.Given as goal

abbrev pub invariant-loop-first : goal.invariant-loop-first
invariant-loop-first l = shadow (Utf8 l.rest) × (after_while (in_class l.class) (chars l.rest) ≡ after_while (in_class l.class) (chars l.text)) × (length l.rest ≤ length l.text)

abbrev pub decreases-loop-first : goal.decreases-loop-first
decreases-loop-first l = length l.rest
