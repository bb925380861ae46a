use Rattle.std.specs.String.{string_bytes}
use Rattle.command_words.proofs.Wrong.{wrong_in_none, wrong_in_name}
use Rattle.command_words.proofs.commands.read_command.Goals as goal

pub returns-in_default-clause-wrong : goal.returns-in_default-clause-wrong
returns-in_default-clause-wrong c = wrong_in_none string_bytes c.args.words.now c.in_default.len_below

pub returns-in_default-as_str-clause-wrong : goal.returns-in_default-as_str-clause-wrong
returns-in_default-as_str-clause-wrong c =
    wrong_in_name string_bytes c.args.words.now c.name-item.result c.in-len1-up.len_at_least c.name-item.is
    (rw c.as_str.ensures.value at c.in_default-as_str.not-list)
    (rw c.as_str.ensures.value at c.in_default-as_str.not-show)
    (rw c.as_str.ensures.value at c.in_default-as_str.not-check)
