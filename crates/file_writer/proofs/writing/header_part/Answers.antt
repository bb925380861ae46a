use Rattle.wire_bytes.specs.Section.{spelling_of}
use Rattle.file_writer.proofs.PutLemmas.{header_is}
use Rattle.file_writer.proofs.writing.header_part.Goals as goal

pub returns : goal.returns
returns c =
    header_is (spelling_of 2) (spelling_of c.args.strings) (spelling_of c.args.body) c.new-w.result c.put_byte.new.self c.put_number.new.w c.put_number-2.new.w c.put_number-3.new.w c.new-w.ensures c.in_ok-put_byte.ensures.written
    c.in_ok-put_number.ensures c.in_ok-put_number-2.ensures c.in_ok-put_number-3.ensures
