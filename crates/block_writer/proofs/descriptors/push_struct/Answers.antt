use Rattle.std.proofs.Common.{[], ◌∷◌}
use Rattle.code_tables.specs.declared.descriptors.TypeTag.TheVariants as tags
use Rattle.file_layout.specs.Items.{a_path, tagged, list_items, field_items}
use Rattle.block_writer.specs.Adding.{fields_over}
use Rattle.block_writer.proofs.Added.{adds_behind}
use Rattle.block_writer.proofs.descriptors.push_struct.Goals as goal

pub returns : goal.returns
returns c =
    adds_behind _ _ _ _ (λ type. tagged tags.Struct (a_path c.args.home.now ∷ [])) (λ type. list_items field_items (fields_over type c.args.fields.now)) c.in_ok-push_home.ensures c.push_fields.ensures
