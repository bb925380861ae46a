use Rattle.std.proofs.Common.{◌∙◌, sym, ap, refl, arith, add-one}
use Rattle.std.proofs.lemmas.Option.{slice_get_read}
use Rattle.asked_names.specs.Counting.{is_here}
use Rattle.exportdata_cmd.proofs.LookedUpLemmas.{passes_at, refused_either, nothing_left}
use Rattle.exportdata_cmd.proofs.showing.status_of.Goals as goal

pub returns-in-Unknown : goal.returns-in-Unknown
returns-in-Unknown c =
    let there = slice_get_read c.args.found.now _ c.loop-one.one-index c.one-item.result refl c.loop-one-test.true c.one-item.is in
    refused_either c.args.found.now c.loop-one.one-index c.one-item.result there c.in-Unknown.is
    ∙ sym c.loop-one.invariant

pub returns-in-Unknown-2 : goal.returns-in-Unknown-2
returns-in-Unknown-2 c =
    let there = slice_get_read c.args.found.now _ c.loop-one.one-index c.one-item.result refl c.loop-one-test.true c.one-item.is in
    refused_either c.args.found.now c.loop-one.one-index c.one-item.result there c.in-Unknown.is
    ∙ sym c.loop-one.invariant

pub loop-one-preserved : goal.loop-one-preserved
loop-one-preserved c =
    let there = slice_get_read c.args.found.now _ c.loop-one.one-index c.one-item.result refl c.loop-one-test.true c.one-item.is in
    rw (add-one c.loop-one.one-index)
    (c.loop-one.invariant
    ∙ passes_at c.args.found.now c.loop-one.one-index c.one-item.result there (ap is_here c.in-Declared.is))

pub returns : goal.returns
returns c =
    sym (c.loop-one.invariant
    ∙ nothing_left c.args.found.now c.loop-one.one-index (omega (arith, c.loop-one-test.false)))
