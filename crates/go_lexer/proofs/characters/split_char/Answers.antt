use Rattle.std.proofs.Common.{◌++◌, sym, ap, ◌∙◌}
use Rattle.std.proofs.lemmas.Str.{chars_past_char}
use Rattle.std.specs.Char.{encode_utf8}
use Rattle.go_lexer.specs.Characters.{split}
use Rattle.go_lexer.proofs.characters.split_char.Goals as goal

pub returns-clause-some : goal.returns-clause-some
returns-clause-some c =
    chars_past_char c.args.text.now c.as_str.result.now c.in_ok-first.first c.utf8.text
    (sym c.chars-rest.ensures.rest ∙ (c.in_ok-first.ensures.steps.0 ∙ ap (λ r. encode_utf8 c.in_ok-first.first ++ r) (sym c.as_str.ensures)))

pub returns-clause-parts : goal.returns-clause-parts
returns-clause-parts c = ap split (sym (returns-clause-some c))
