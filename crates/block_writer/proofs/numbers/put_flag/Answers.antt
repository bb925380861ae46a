use Rattle.file_writer.proofs.PutLemmas.{on_ok}
use Rattle.block_writer.proofs.NumbersAdded.{flag_added}
use Rattle.block_writer.proofs.numbers.put_flag.Goals as goal

pub returns : goal.returns
returns c = on_ok c.put_flag.result _ _ (flag_added c.args.flag c.args.w.now c.put_flag.new.self) c.put_flag.ensures.written
