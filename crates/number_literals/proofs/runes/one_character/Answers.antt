use Rattle.std.proofs.Common.{◌≡◌, ◌<◌, ◌++◌, length, sym, ap, ◌∙◌, arith}
use Rattle.std.proofs.lemmas.Bool.Decides.{nat_tests}
use Rattle.std.proofs.lemmas.Str.{chars_past_char}
use Rattle.std.specs.Char.{encode_utf8}
use Rattle.number_literals.proofs.RuneLaws.{one_then, one_else}
use Rattle.number_literals.proofs.runes.one_character.Goals as goal

pub returns-then-is_empty : goal.returns-then-is_empty
returns-then-is_empty c =
    let none : length c.as_str.result.now ≡ 0 = grind (arith, nat_tests) in
    one_then c.in_ok-first.first c.args.text.now c.as_str.result.now
    (chars_past_char c.args.text.now c.as_str.result.now c.in_ok-first.first c.utf8.text
    (sym c.chars-rest.ensures.rest ∙ (c.in_ok-first.ensures.steps.0 ∙ ap (λ r. encode_utf8 c.in_ok-first.first ++ r) (sym c.as_str.ensures))))
    none

pub returns-else-is_empty : goal.returns-else-is_empty
returns-else-is_empty c =
    let some : 0 < length c.as_str.result.now = grind (arith, nat_tests) in
    one_else c.in_ok-first.first c.args.text.now c.as_str.result.now
    (chars_past_char c.args.text.now c.as_str.result.now c.in_ok-first.first c.utf8.text
    (sym c.chars-rest.ensures.rest ∙ (c.in_ok-first.ensures.steps.0 ∙ ap (λ r. encode_utf8 c.in_ok-first.first ++ r) (sym c.as_str.ensures))))
    c.as_str.utf8 some
