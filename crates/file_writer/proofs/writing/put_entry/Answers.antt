use Rattle.file_writer.proofs.PutLemmas.{on_ok, put_then, put_number}
use Rattle.file_writer.proofs.writing.put_entry.Goals as goal

pub returns : goal.returns
returns c =
    on_ok c.put_number.result _ _ (λ added. put_then c.in_ok-put_text.ensures (put_number c.args.entry.now.offset c.put_text.new.strings c.put_text.new.w c.put_number.new.w added)) c.put_number.ensures
