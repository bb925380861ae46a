use Rattle.std.proofs.Common.{[], ◌∷◌}
use Rattle.file_layout.specs.Items.{a_position, a_text, sig_items}
use Rattle.block_writer.specs.Adding.{sig_over}
use Rattle.block_writer.proofs.Added.{adds_behind}
use Rattle.block_writer.proofs.members.IMethodListed.push.Goals as goal

pub returns : goal.returns
returns c =
    adds_behind _ _ _ _ (λ type. a_position c.args.self.now.pos ∷ a_text c.args.self.now.name ∷ []) (λ type. sig_items (sig_over type c.args.self.now.sig)) c.in_ok-push_named.ensures c.push_sig.ensures
