use Rattle.file_layout.specs.Items.{list_items, receiver_items}
use Rattle.block_writer.specs.Adding.{receiver_over, receivers_over}
use Rattle.block_writer.proofs.Added.{adds_as}
use Rattle.block_writer.proofs.Fused.{receivers_fused}
use Rattle.block_writer.proofs.declarations.push_receivers.Goals as goal

pub returns : goal.returns
returns c =
    adds_as _ _ _ (λ type. list_items (λ x. receiver_items (receiver_over type x)) c.args.methods.now) (λ type. list_items receiver_items (receivers_over type c.args.methods.now)) (λ type. receivers_fused type c.args.methods.now) c.push_list.ensures
