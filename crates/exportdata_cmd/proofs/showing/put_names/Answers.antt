use Rattle.std.proofs.Common.{◌≤◌, length, Err, ◌∙◌, ap, refl, arith}
use Rattle.std.proofs.lemmas.Option.{slice_get_read}
use Rattle.std.proofs.lemmas.Result.{err_from_is_err_and}
use Rattle.exportdata_cmd.proofs.LookedUpLemmas.{pairs, lines_of_pair, texts_are, pair_there, pair_count}
use Rattle.exportdata_cmd.proofs.PuttingLemmas.{puts_as, loop_goes_on, loop_stops, loop_ends}
use Rattle.exportdata_cmd.proofs.showing.put_names.Goals as goal

pub returns-in_err-put_answer : goal.returns-in_err-put_answer
returns-in_err-put_answer g c =
    let p = err_from_is_err_and c.from_residual.result c.from_residual.ensures.1 in
    let nodes = c.args.arena.now.nodes in
    let found =
    pair_there c.args.names.now c.args.found.now c.loop-k.k c.index-names-k.result c.index-found-k.result
    (slice_get_read c.args.names.now _ c.loop-k.k c.index-names-k.result refl (omega (arith, c.loop-k-test.true, c.requires.each)) c.index-names-k.is)
    (slice_get_read c.args.found.now _ c.loop-k.k c.index-found-k.result refl c.loop-k-test.true c.index-found-k.is) in
    puts_as _ _ _ _ _ _ (texts_are nodes c.args.names.now c.args.found.now) (p.1 ∙ ap Err p.2)
    (loop_stops (lines_of_pair nodes) (pairs c.args.names.now c.args.found.now) _ _ _ c.loop-k.k _ _ found c.loop-k.invariant c.in_err-put_answer.ensures)

pub loop-k-preserved : goal.loop-k-preserved
loop-k-preserved g c =
    let nodes = c.args.arena.now.nodes in
    let found =
    pair_there c.args.names.now c.args.found.now c.loop-k.k c.index-names-k.result c.index-found-k.result
    (slice_get_read c.args.names.now _ c.loop-k.k c.index-names-k.result refl (omega (arith, c.loop-k-test.true, c.requires.each)) c.index-names-k.is)
    (slice_get_read c.args.found.now _ c.loop-k.k c.index-found-k.result refl c.loop-k-test.true c.index-found-k.is) in
    loop_goes_on (lines_of_pair nodes) (pairs c.args.names.now c.args.found.now) _ _ _ c.loop-k.k _ found c.loop-k.invariant c.in_ok-put_answer.ensures

pub returns : goal.returns
returns g c =
    let nodes = c.args.arena.now.nodes in
    let whole = pairs c.args.names.now c.args.found.now in
    let all : length whole ≤ c.loop-k.k =
    omega (arith, pair_count c.args.names.now c.args.found.now c.requires.each, c.loop-k-test.false) in
    rw (texts_are nodes c.args.names.now c.args.found.now) (loop_ends (lines_of_pair nodes) whole _ _ c.loop-k.k all c.loop-k.invariant)
