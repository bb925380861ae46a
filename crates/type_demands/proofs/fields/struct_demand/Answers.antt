use Rattle.std.proofs.Common.{◌≡◌, map, true, sym, ◌∙◌}
use Rattle.type_terms.specs.NodeShapes.{field_shape}
use Rattle.type_alike.specs.Demands.{same_fields}
use Rattle.type_demands.proofs.DemandLemmas.{struct_done}
use Rattle.type_demands.proofs.fields.struct_demand.Goals as goal

pub returns : goal.returns
returns c = λ generic.
    let same : same_fields c.args.home.now c.args.other.now (map field_shape c.args.left.now) (map field_shape c.args.right.now) ≡ true
    = sym c.same_fields.ensures.exact ∙ c.if-not-same_fields.false in
    struct_done generic c.args.home.now c.args.other.now c.args.left.now c.args.right.now c.new-parts.result.items c.push_in_step.new.into.items
    same c.new-parts.ensures.items (c.in_ok-push_in_step.ensures generic)
