use Rattle.std.proofs.Common.{codes}
use Rattle.std.specs.String.{string_bytes}
use Rattle.command_words.proofs.Wrong.{begins_list, wrong_in_alone, wrong_in_source, wrong_in_more}
use Rattle.command_words.proofs.commands.read_list.Goals as goal

pub returns-in_default-clause-wrong : goal.returns-in_default-clause-wrong
returns-in_default-clause-wrong c = wrong_in_alone string_bytes (codes "list") begins_list c.args.rest.now c.in_default.len_below

pub returns-in_default-of-clause-wrong : goal.returns-in_default-of-clause-wrong
returns-in_default-of-clause-wrong c =
    wrong_in_source string_bytes (codes "list") begins_list c.args.rest.now c.word-item.result c.in-len1-up.len_at_least c.word-item.is
    (rw c.as_str.ensures.value at c.in_default-of.ensures.none)

pub returns-then-rest-gt1-clause-wrong : goal.returns-then-rest-gt1-clause-wrong
returns-then-rest-gt1-clause-wrong c =
    wrong_in_more string_bytes c.args.rest.now c.word-item.result _ c.if-rest-gt1.true c.word-item.is
    (rw c.as_str.ensures.value at c.in-Some.ensures.spelled)
    c.in-Some.ensures.sound
