use Rattle.std.proofs.lemmas.Option.{slice_get-get_or}
use Rattle.session_files.specs.OpenSessions.{all_opened}
use Rattle.session_files.proofs.WayLemmas.{way_put}
use Rattle.session_files.proofs.basics.first_ways.Goals as goal

pub loop-at-preserved : goal.loop-at-preserved
loop-at-preserved c =
    way_put (all_opened c.args.files.now) c.args.index.now c.loop-at.ways.items _ c.loop-at.at-index _ _ (slice_get-get_or c.args.index.now c.loop-at.at-index _ c.loop-at-test.true) c.first_way.ensures c.in_ok-push.ensures.items c.loop-at.invariant
