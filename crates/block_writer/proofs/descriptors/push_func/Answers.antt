use Rattle.std.proofs.Common.{[], ◌∷◌}
use Rattle.code_tables.specs.declared.descriptors.TypeTag.TheVariants as tags
use Rattle.file_layout.specs.Items.{a_path, tagged, sig_items}
use Rattle.block_writer.specs.Adding.{sig_over}
use Rattle.block_writer.proofs.Added.{adds_behind}
use Rattle.block_writer.proofs.descriptors.push_func.Goals as goal

pub returns : goal.returns
returns c = adds_behind _ _ _ _ (λ type. tagged tags.Signature (a_path c.args.home.now ∷ [])) (λ type. sig_items (sig_over type c.args.sig.now)) c.in_ok-push_home.ensures c.push_sig.ensures
