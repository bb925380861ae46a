use Rattle.file_layout.specs.Items.{list_items, field_items}
use Rattle.block_writer.specs.Adding.{field_over, fields_over}
use Rattle.block_writer.proofs.Added.{adds_as}
use Rattle.block_writer.proofs.Fused.{fields_fused}
use Rattle.block_writer.proofs.members.push_fields.Goals as goal

pub returns : goal.returns
returns c =
    adds_as _ _ _ (λ type. list_items (λ x. field_items (field_over type x)) c.args.fields.now) (λ type. list_items field_items (fields_over type c.args.fields.now)) (λ type. fields_fused type c.args.fields.now) c.push_list.ensures
