use Rattle.std.proofs.Common.{[], ◌∷◌}
use Rattle.file_envelope.specs.FileBytes.{entry_bytes}
use Rattle.file_writer.specs.Puts.{entry_of}
use Rattle.file_writer.proofs.PutLemmas.{put_next}
use Rattle.file_writer.proofs.writing.put_entries.Goals as goal

pub loop-entry-preserved : goal.loop-entry-preserved
loop-entry-preserved c =
    put_next entry_of (λ e. e.name ∷ []) entry_bytes c.args.entries.now c.loop-entry.entry-index _ c.args.strings.now c.loop-entry.strings c.put_entry.new.strings c.args.w.now c.loop-entry.w c.put_entry.new.w c.loop-entry-test.true c.loop-entry.invariant
    c.in_ok-put_entry.ensures
