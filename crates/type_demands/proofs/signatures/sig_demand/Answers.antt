use Rattle.std.proofs.Common.{◌≡◌, true, sym, ◌∙◌}
use Rattle.type_terms.specs.NodeShapes.{sig_shape}
use Rattle.type_alike.specs.Demands.{same_form}
use Rattle.type_demands.proofs.DemandLemmas.{sig_done}
use Rattle.type_demands.proofs.signatures.sig_demand.Goals as goal

pub returns : goal.returns
returns c = λ generic.
    let same : same_form (sig_shape c.args.left.now) (sig_shape c.args.right.now) ≡ true = sym c.same_form.ensures ∙ c.if-not-same_form.false in
    sig_done generic c.args.left.now c.args.right.now c.new-parts.result.items c.push_in_step.new.into.items c.push_in_step-2.new.into.items
    c.items.result.now c.items-2.result.now c.items-3.result.now c.items-4.result.now same c.new-parts.ensures.items
    c.items.ensures c.items-2.ensures c.items-3.ensures c.items-4.ensures
    (c.in_ok-push_in_step.ensures generic) (c.in_ok-push_in_step-2.ensures generic)
