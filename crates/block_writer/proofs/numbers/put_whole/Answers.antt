use Rattle.std.proofs.lemmas.Int.{to_z-of_z}
use Rattle.file_writer.proofs.PutLemmas.{on_ok}
use Rattle.block_writer.proofs.NumbersAdded.{whole_added}
use Rattle.block_writer.proofs.numbers.put_whole.Goals as goal

pub returns : goal.returns
returns c =
    let written = simp (to_z-of_z, c.ranges.value) at c.put_whole.ensures.written in
    on_ok c.put_whole.result _ _ (whole_added c.args.signed c.args.max c.args.value c.args.w.now c.put_whole.new.self c.requires.length c.requires.of_type) written
