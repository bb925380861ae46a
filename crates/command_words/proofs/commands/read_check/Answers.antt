use Rattle.std.proofs.Common.{◌∙◌, sym}
use Rattle.std.specs.String.{string_bytes}
use Rattle.command_words.specs.Forms.{sources_of}
use Rattle.command_words.proofs.Wrong.{wrong_in_followed, wrong_in_unchecked}
use Rattle.command_words.proofs.commands.read_check.Goals as goal

pub returns-then-count-eq0-clause-wrong : goal.returns-then-count-eq0-clause-wrong
returns-then-count-eq0-clause-wrong c =
    rw c.len-count.ensures
    (wrong_in_unchecked string_bytes c.args.rest.now c.leading.result.1.now (sources_of c.leading.result.0) c.leading.ensures.parted c.leading.ensures.sound
    (sym c.len-count.ensures ∙ c.if-count-eq0.true) c.leading.ensures.other)

pub returns-in-len1-up-clause-wrong : goal.returns-in-len1-up-clause-wrong
returns-in-len1-up-clause-wrong c =
    rw c.len-count.ensures
    (wrong_in_followed string_bytes c.args.rest.now c.leading.result.1.now (sources_of c.leading.result.0) c.leading.ensures.parted c.leading.ensures.sound
    c.in-len1-up.len_at_least c.leading.ensures.other)
