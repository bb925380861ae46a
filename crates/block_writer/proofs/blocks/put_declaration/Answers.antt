use Rattle.file_writer.proofs.PutLemmas.{on_ok}
use Rattle.block_writer.proofs.DeclPut.{decl_put}
use Rattle.block_writer.proofs.blocks.put_declaration.Goals as goal

pub returns : goal.returns
returns c =
    on_ok c.put_last.result _ _
    (λ ended. decl_put c.args.own.now c.args.numbers.now c.args.told c.args.decl.now c.new-items.result.items c.push_declaration.new.into.items c.as_slice.result.now c.kind_byte.result c.args.strings.now c.put_items.new.strings c.args.w.now c.put_byte.new.self
    c.put_items.new.w c.put_last.new.w c.requires.methods c.kind_byte.ensures c.in_ok-put_byte.ensures.written c.new-items.ensures.items c.in_ok-push_declaration.ensures c.as_slice.ensures.value c.in_ok-put_items.ensures (ended c.args.own.now)) c.put_last.ensures
