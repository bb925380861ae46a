use Rattle.file_layout.specs.Items.{list_items, param_items}
use Rattle.block_writer.specs.Adding.{param_over, params_over}
use Rattle.block_writer.proofs.Added.{adds_as}
use Rattle.block_writer.proofs.Fused.{params_fused}
use Rattle.block_writer.proofs.signatures.push_params.Goals as goal

pub returns : goal.returns
returns c =
    adds_as _ _ _ (λ type. list_items (λ x. param_items (param_over type x)) c.args.params.now) (λ type. list_items param_items (params_over type c.args.params.now)) (λ type. params_fused type c.args.params.now) c.push_list.ensures
