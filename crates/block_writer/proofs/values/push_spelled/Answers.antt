use Rattle.block_writer.proofs.Declared.{truth_added, text_added, number_added}
use Rattle.block_writer.proofs.values.push_spelled.Goals as goal

pub returns-in-Flag : goal.returns-in-Flag
returns-in-Flag c = truth_added _ _ _ c.args.spelling c.args.value.now c.in-Flag.is c.push_truth.ensures

pub returns-in-Offset : goal.returns-in-Offset
returns-in-Offset c = text_added _ _ _ c.args.spelling c.args.value.now c.in-Offset.is c.push_text.ensures

pub returns-in-Number : goal.returns-in-Number
returns-in-Number c = number_added _ c.args.spelling c.in-Number.signed c.in-Number.max c.args.value.now c.in-Number.is
