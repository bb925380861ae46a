use Rattle.std.proofs.Common.{[], ◌∷◌, ◌++◌}
use Rattle.file_layout.specs.Items.{a_position, a_text, param_items, sig_items}
use Rattle.block_writer.specs.Adding.{param_over, sig_over}
use Rattle.block_writer.proofs.Added.{adds_behind}
use Rattle.block_writer.proofs.declarations.MethodListed.push.Goals as goal

pub returns : goal.returns
returns c =
    adds_behind _ _ _ _ (λ type. a_position c.args.self.now.pos ∷ a_text c.args.self.now.name ∷ []) (λ type. param_items (param_over type c.args.self.now.recv) ++ sig_items (sig_over type c.args.self.now.sig)) c.in_ok-push_named.ensures
    (adds_behind _ _ _ _ (λ type. param_items (param_over type c.args.self.now.recv)) (λ type. sig_items (sig_over type c.args.self.now.sig)) c.in_ok-push.ensures c.push_sig.ensures)
