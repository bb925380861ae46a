use Rattle.std.proofs.Common.{◌≡◌, length, None}
use denote.Text.{Utf8}
use denote.Shadow.{shadow}
use Rattle.std.specs.Str.{chars}
use Rattle.go_lexer.specs.Lexing.{with_front, lexed_text}
use Rattle.go_lexer.proofs.lexing.lex_text.Given as goal

abbrev pub invariant-loop-rest : goal.invariant-loop-rest
invariant-loop-rest l = shadow (Utf8 l.rest) × (with_front l.tokens.items (lexed_text l.ending l.total l.owed (chars l.rest)) ≡ lexed_text l.ending l.total None (chars l.text))

abbrev pub decreases-loop-rest : goal.decreases-loop-rest
decreases-loop-rest l = length (chars l.rest)
