use Rattle.file_layout.specs.Items.{list_items, method_items}
use Rattle.block_writer.specs.Adding.{method_over, methods_over}
use Rattle.block_writer.proofs.Added.{adds_as}
use Rattle.block_writer.proofs.Fused.{methods_fused}
use Rattle.block_writer.proofs.members.push_methods.Goals as goal

pub returns : goal.returns
returns c =
    adds_as _ _ _ (λ type. list_items (λ x. method_items (method_over type x)) c.args.methods.now) (λ type. list_items method_items (methods_over type c.args.methods.now)) (λ type. methods_fused type c.args.methods.now) c.push_list.ensures
