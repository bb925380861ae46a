use Rattle.file_envelope.specs.FileBytes.{package_texts, package_bytes}
use Rattle.file_writer.specs.Puts.{package_of}
use Rattle.file_writer.proofs.PutLemmas.{put_next}
use Rattle.file_writer.proofs.writing.put_packages.Goals as goal

pub loop-listed-preserved : goal.loop-listed-preserved
loop-listed-preserved c =
    put_next package_of package_texts package_bytes c.args.index.now c.loop-listed.listed-index _ c.args.strings.now c.loop-listed.strings c.put_package.new.strings c.args.w.now c.loop-listed.w c.put_package.new.w c.loop-listed-test.true
    c.loop-listed.invariant c.in_ok-put_package.ensures
