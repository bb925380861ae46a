use Rattle.file_layout.specs.Items.{list_items, term_items}
use Rattle.block_writer.specs.Adding.{term_over, terms_over}
use Rattle.block_writer.proofs.Added.{adds_as}
use Rattle.block_writer.proofs.Fused.{terms_fused}
use Rattle.block_writer.proofs.members.push_terms.Goals as goal

pub returns : goal.returns
returns c =
    adds_as _ _ _ (λ type. list_items (λ x. term_items (term_over type x)) c.args.terms.now) (λ type. list_items term_items (terms_over type c.args.terms.now)) (λ type. terms_fused type c.args.terms.now) c.push_list.ensures
