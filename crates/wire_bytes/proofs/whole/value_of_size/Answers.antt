use Rattle.std.proofs.Common.{sym, ap, arith, ◌<◌, ◌∙◌, true≢false}
use Rattle.std.specs.Option.{ok_or}
use Rattle.wire_bytes.specs.Whole.{code_of, with_sign, small_limit}
use Rattle.std.specs.Prelude.{slice_index}
use Rattle.wire_bytes.proofs.WholeLemmas.{judged_zero, ends_large, ends_short, ends_long, failed}
use Rattle.wire_bytes.proofs.whole.value_of_size.Goals as goal

pub returns-then-size-eq0 : goal.returns-then-size-eq0
returns-then-size-eq0 c = sym (judged_zero c.args.signed c.args.max c.args.at c.args.prefix c.args.size.now c.if-size-eq0.true)

pub returns-in_default : goal.returns-in_default
returns-in_default c =
    let some : 0 < slice_index c.args.size.now 0 = omega arith in
    ap failed c.beyond.ensures ∙ sym (ends_large c.args.signed c.args.max c.args.at c.args.prefix c.args.size.now c.requires.length some c.in_default.ensures.large)

pub returns-then-is_short : goal.returns-then-is_short
returns-then-is_short c =
    let some : 0 < slice_index c.args.size.now 0 = omega arith in
    sym (ends_short c.args.signed c.is_negative-negative.result c.args.max c.args.at c.args.prefix c.in-Some.number c.args.size.now c.is_negative-negative.ensures c.in-Some.ensures.found some (c.is_short.ensures.0 c.if-is_short.true))

pub returns : goal.returns
returns c =
    let some : 0 < slice_index c.args.size.now 0 = omega arith in
    let long = λ (lt : code_of c.args.signed (with_sign c.is_negative-negative.result c.in-Some.number) < small_limit c.args.signed c.args.max). true≢false (sym (c.is_short.ensures.1 lt) ∙ c.if-is_short.false) in
    c.ok_or.ensures.value ∙ ap (ok_or c.of_type.result) c.beyond-2.ensures
    ∙ ends_long c.args.signed c.is_negative-negative.result c.args.max c.args.at c.args.prefix c.in-Some.number c.args.size.now c.of_type.result c.is_negative-negative.ensures c.in-Some.ensures.found some long c.of_type.ensures.found c.of_type.ensures.fits
