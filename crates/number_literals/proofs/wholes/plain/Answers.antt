use Rattle.std.proofs.Common.{◌∙◌, ap, sym}
use Rattle.number_literals.specs.Reading.{kept}
use Rattle.number_literals.proofs.Laws.{plain_reads}
use Rattle.number_literals.proofs.wholes.plain.Goals as goal

pub returns-then-is_digits : goal.returns-then-is_digits
returns-then-is_digits c =
    c.kept.ensures ∙ ap kept c.read.ensures ∙ plain_reads c.args.base c.args.digits.now c.requires.low (sym c.is_digits.ensures ∙ c.if-is_digits.true)
