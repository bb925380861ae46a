use Rattle.std.proofs.Common.{◌∙◌, ap}
use Rattle.number_literals.specs.RuneReading.{plain_of_one}
use Rattle.number_literals.proofs.RuneLaws.{is_text, no_text}
use Rattle.number_literals.proofs.runes.character.Goals as goal

pub returns-in-Ok : goal.returns-in-Ok
returns-in-Ok c =
    is_text c.args.inside.now c.in-Ok.text.now c.plain_of_one.result c.in-Ok.ensures.cases.0 c.in-Ok.ensures.cases.1
    (c.plain_of_one.ensures ∙ ap plain_of_one c.one_character.ensures)

pub returns-in-Err : goal.returns-in-Err
returns-in-Err c = no_text c.args.inside.now c.in-Err.ensures.cases.0
