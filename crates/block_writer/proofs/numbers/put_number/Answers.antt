use Rattle.file_writer.proofs.PutLemmas.{on_ok, number_added}
use Rattle.block_writer.proofs.numbers.put_number.Goals as goal

pub returns : goal.returns
returns c = on_ok c.put_uvarint.result _ _ (number_added c.args.number c.args.w.now c.put_uvarint.new.self) c.put_uvarint.ensures.written
