use Rattle.std.proofs.Common.{refl}
use Rattle.std.proofs.lemmas.Option.{slice_get_read}
use Rattle.checked_files.specs.Reading.{Judges}
use Rattle.checked_files.proofs.ZipLemmas.{zip_turn}
use Rattle.checked_files.proofs.checking.judge_file.Goals as goal

pub loop-read-preserved : goal.loop-read-preserved
loop-read-preserved g c =
    let at = slice_get_read c.args.reads.now _ c.loop-read.read-index c.read-item.result refl c.loop-read-test.true c.read-item.is in (
      zip_turn (Judges c.args.arena.now.nodes (g.R.Roles.entries c.args.roles.now)) c.args.reads.now c.loop-read.verdicts.items _ c.loop-read.read-index c.read-item.result
          c.in_ok-judge.field-0 at c.loop-read.invariant.0 c.in_ok-judge.ensures.judged c.in_ok-push.ensures.items,
      c.judge.ensures.right,
    )
