use Rattle.std.proofs.Common.{refl}
use Rattle.std.proofs.lemmas.Option.{slice_get_read}
use Rattle.checked_files.proofs.ZipLemmas.{zip_turn}
use Rattle.checked_files.proofs.checking.judge_files.Goals as goal

pub loop-reads-preserved : goal.loop-reads-preserved
loop-reads-preserved g c =
    let at = slice_get_read c.args.files.now _ c.loop-reads.reads-index c.reads-item.result refl c.loop-reads-test.true c.reads-item.is in (
      zip_turn _ c.args.files.now c.loop-reads.all.items _ c.loop-reads.reads-index c.reads-item.result
          c.in_ok-judge_file.field-0 at c.loop-reads.invariant.0 (rw c.deref.ensures.value at c.in_ok-judge_file.ensures.judged) c.in_ok-push.ensures.items,
      c.judge_file.ensures.right,
    )
