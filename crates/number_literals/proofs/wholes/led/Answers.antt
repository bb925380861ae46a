use Rattle.std.proofs.Common.{◌∙◌, ap, sym}
use Rattle.number_literals.specs.Reading.{kept}
use Rattle.number_literals.proofs.Laws.{led_reads}
use Rattle.number_literals.proofs.wholes.led.Goals as goal

pub returns-then-is_led_digits : goal.returns-then-is_led_digits
returns-then-is_led_digits c =
    c.kept.ensures ∙ ap kept c.read.ensures ∙ led_reads c.args.base c.args.digits.now c.requires.low (sym c.is_led_digits.ensures ∙ c.if-is_led_digits.true)
