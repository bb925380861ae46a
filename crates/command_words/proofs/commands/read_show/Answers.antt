use Rattle.std.proofs.Common.{◌≢◌, ◌∙◌, sym, subst, [], ◌+◌}
use Rattle.std.proofs.Math.Facts.{Fits-of_lt}
use Rattle.std.specs.String.{string_bytes}
use Rattle.command_words.specs.Forms.{sources_of}
use Rattle.command_words.proofs.Wrong.{few_words, wrong_in_unmarked, wrong_in_mark, wrong_in_first, wrong_in_named}
use Rattle.command_words.proofs.Wrong.{form_in_named, any_of, test_true, test_false}
use Rattle.command_words.proofs.commands.read_show.Goals as goal
use Rattle.command_words.proofs.commands.read_show.Goals.{then-count-eq0-via-then-count-eq0, then-count-eq0-via-else-count-eq0+then-ne}

pub returns-in_default-clause-wrong : goal.returns-in_default-clause-wrong
returns-in_default-clause-wrong c =
    rw c.len-count.ensures
    (wrong_in_unmarked string_bytes c.args.rest.now c.leading.result.1.now (sources_of c.leading.result.0) c.leading.ensures.parted c.leading.ensures.sound c.in_default.len_below)

pub returns-then-count-eq0-clause-wrong : goal.returns-then-count-eq0-clause-wrong
returns-then-count-eq0-clause-wrong c =
    elim c.then-count-eq0.branch [
      | then-count-eq0-via-then-count-eq0 w ↦
          rw c.len-count.ensures
          (wrong_in_first string_bytes c.args.rest.now c.leading.result.1.now (sources_of c.leading.result.0) c.leading.ensures.parted c.leading.ensures.sound c.mark-item.result c.in-len1-up.len_at_least c.mark-item.is c.leading.ensures.other
          (sym c.len-count.ensures ∙ w.if-count-eq0.true))
      | then-count-eq0-via-else-count-eq0+then-ne w ↦
          rw c.len-count.ensures
          (wrong_in_mark string_bytes c.args.rest.now c.leading.result.1.now (sources_of c.leading.result.0) c.leading.ensures.parted c.leading.ensures.sound c.mark-item.result c.in-len1-up.len_at_least c.mark-item.is c.leading.ensures.other
          (rw (← w.as_str.ensures.value) (test_true w.ne.result _ _ w.ne.ensures w.if-ne.true)))
    ]

pub overflow_add-result-in-Err : goal.overflow_add-result-in-Err
overflow_add-result-in-Err c =
    rw c.len-count.ensures
    (Fits-of_lt (few_words string_bytes c.args.rest.now c.leading.result.1.now (sources_of c.leading.result.0) c.leading.ensures.parted c.leading.ensures.sound c.in-Err.k c.in-Err.ensures.other c.well_formed.0.1))

pub returns-in-Ok-clause-found : goal.returns-in-Ok-clause-found
returns-in-Ok-clause-found c =
    form_in_named string_bytes c.args.rest.now c.leading.result.1.now (sources_of c.leading.result.0) c.leading.ensures.parted c.leading.ensures.sound c.mark-item.result c.in-len1-up.len_at_least c.mark-item.is
    (rw (← c.as_str.ensures.value) (test_false c.ne.result _ _ c.ne.ensures c.if-ne.false))
    (any_of (sources_of c.leading.result.0) c.len-count.result c.len-count.ensures c.if-count-eq0.false)
    _ c.in-Ok.ensures.spelled c.in-Ok.ensures.sound

pub returns-in-Err-clause-wrong : goal.returns-in-Err-clause-wrong
returns-in-Err-clause-wrong c =
    rw c.len-count.ensures
    (wrong_in_named string_bytes c.args.rest.now c.leading.result.1.now (sources_of c.leading.result.0) c.leading.ensures.parted c.leading.ensures.sound c.mark-item.result c.in-len1-up.len_at_least c.mark-item.is
    (rw (← c.as_str.ensures.value) (test_false c.ne.result _ _ c.ne.ensures c.if-ne.false))
    (any_of (sources_of c.leading.result.0) c.len-count.result c.len-count.ensures c.if-count-eq0.false)
    c.in-Err.k c.in-Err.ensures.other)
