use Rattle.std.proofs.Common.{map}
use Rattle.file_writer.specs.Puts.{package_of}
use Rattle.file_writer.proofs.PutLemmas.{if_ok, file_written, file_envelope}
use Rattle.file_writer.proofs.writing.write_file.Goals as goal

pub returns-clause-written : goal.returns-clause-written
returns-clause-written c =
    if_ok c.whole.result _ _
    (λ bytes is. file_written c.args.strings.now c.index_part.new.strings c.args.body.now (map package_of c.args.index.now) c.bytes.result.now c.in_ok-packages.packages c.bytes-2.result.now bytes.items c.bytes.ensures c.in_ok-packages.ensures c.bytes-2.ensures is)
    c.whole.ensures

pub returns-clause-envelope : goal.returns-clause-envelope
returns-clause-envelope c =
    if_ok c.whole.result _ _
    (λ bytes is. file_envelope c.index_part.new.strings c.args.body.now (map package_of c.args.index.now) bytes.items
    (file_written c.args.strings.now c.index_part.new.strings c.args.body.now (map package_of c.args.index.now) c.bytes.result.now c.in_ok-packages.packages c.bytes-2.result.now bytes.items c.bytes.ensures c.in_ok-packages.ensures c.bytes-2.ensures is))
    c.whole.ensures
