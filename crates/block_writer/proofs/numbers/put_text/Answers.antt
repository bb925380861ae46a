use Rattle.file_writer.proofs.PutLemmas.{on_ok, put_offset}
use Rattle.block_writer.proofs.numbers.put_text.Goals as goal

pub returns : goal.returns
returns c =
    on_ok c.put_uvarint.result _ _ (put_offset c.args.text.now c.in_ok-offset.offset c.args.strings.now c.add.new.self c.args.w.now c.put_uvarint.new.self c.in_ok-offset.ensures.texts c.in_ok-offset.ensures.offset)
    c.put_uvarint.ensures.written
