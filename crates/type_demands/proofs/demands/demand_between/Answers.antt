use Rattle.std.proofs.Common.{◌≡◌, sym, subst, ◌∙◌, map}
use Rattle.std.specs.Prelude.{IfOk}
use Rattle.type_terms.specs.NodeShapes.{field_shape}
use Rattle.type_alike.specs.Demands.{parts_where, same_fields, in_step, field_parts}
use Rattle.type_demands.specs.NodeDemands.{meant, generic_at, node_pair, node_demand}
use Rattle.type_demands.proofs.demands.demand_between.Goals as goal

pub returns-in-FuncOf-FuncOf : goal.returns-in-FuncOf-FuncOf
returns-in-FuncOf-FuncOf c =
    let nodes = c.args.arena.now.nodes in
    subst (λ want. IfOk c.sig_demand.result (λ found. meant found ≡ want))
    (λ i. node_demand nodes (sym c.in-FuncOf-FuncOf.is-0 i) (sym c.in-FuncOf-FuncOf.is-1 i))
    (c.sig_demand.ensures (generic_at nodes))

pub returns-in-StructOf-StructOf : goal.returns-in-StructOf-StructOf
returns-in-StructOf-StructOf c =
    let nodes = c.args.arena.now.nodes in
    let home = c.in-StructOf-StructOf.home in
    let other = c.in-StructOf-StructOf.other in
    let xs = c.items.ensures in
    let ys = c.items-in-StructOf-StructOf.ensures in
    subst (λ want. IfOk c.struct_demand.result (λ found. meant found ≡ want))
    ((λ i. parts_where (same_fields home other (map field_shape (xs i)) (map field_shape (ys i)))
    (in_step (generic_at nodes) node_pair (field_parts (map field_shape (xs i))) (field_parts (map field_shape (ys i)))))
    ∙ (λ i. node_demand nodes (sym c.in-StructOf-StructOf.is-0 i) (sym c.in-StructOf-StructOf.is-1 i)))
    (c.struct_demand.ensures (generic_at nodes))
