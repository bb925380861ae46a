use Rattle.std.proofs.Common.{refl, arith}
use Rattle.std.proofs.lemmas.Option.{slice_get_read}
use Rattle.asked_names.proofs.CountingLemmas.{counts_on}
use Rattle.asked_names.proofs.counting.distinct_declared.Goals as goal

pub loop-place-preserved : goal.loop-place-preserved
loop-place-preserved c =
    let there = slice_get_read c.args.found.now _ c.loop-place.place c.index-found-place.result refl c.loop-place-test.true c.index-found-place.is in
    let at = slice_get_read c.args.names.now _ c.loop-place.place c.index-names-place.result refl (omega (arith, c.loop-place-test.true, c.requires)) c.index-names-place.is in
    counts_on c.args.names.now c.args.found.now c.loop-place.place c.index-names-place.result c.index-found-place.result at there c.loop-place.distinct.keys c.loop-place.invariant _ c.in_ok-note_declared.ensures
