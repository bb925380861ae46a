use Rattle.std.proofs.Common.{[], ◌∷◌, ◌++◌, map}
use Rattle.code_tables.specs.declared.descriptors.TypeTag.TheVariants as tags
use Rattle.file_layout.specs.Items.{a_path, tagged, list_items, embedded_items, method_items}
use Rattle.block_writer.specs.Adding.{methods_over}
use Rattle.block_writer.proofs.Added.{adds_behind}
use Rattle.block_writer.proofs.descriptors.push_interface.Goals as goal

pub returns : goal.returns
returns c =
    adds_behind _ _ _ _ (λ type. tagged tags.Interface (a_path c.args.home.now ∷ [])) (λ type. list_items embedded_items (map type c.args.embedded.now) ++ list_items method_items (methods_over type c.args.methods.now)) c.in_ok-push_home.ensures
    (adds_behind _ _ _ _ (λ type. list_items embedded_items (map type c.args.embedded.now)) (λ type. list_items method_items (methods_over type c.args.methods.now)) c.in_ok-push_embedded.ensures c.push_methods.ensures)
