use Rattle.file_writer.proofs.PutLemmas.{on_ok}
use Rattle.block_writer.proofs.PutLemmas.{descriptor_put}
use Rattle.block_writer.proofs.blocks.put_descriptor.Goals as goal

pub returns : goal.returns
returns c =
    on_ok c.put_items.result _ _
    (λ put. descriptor_put c.args.own.now c.args.numbers.now c.args.node.now c.new-items.result.items c.push_descriptor.new.into.items c.as_slice.result.now c.args.strings.now c.put_items.new.strings c.args.w.now c.put_items.new.w c.new-items.ensures.items
    c.in_ok-push_descriptor.ensures c.as_slice.ensures.value put) c.put_items.ensures
