use Rattle.std.proofs.Common.{◌<◌, ◌∷◌, [], sym, subst, map}
use Rattle.std.specs.List.{flat_map}
use Rattle.type_terms.specs.Arenas.{AllBelow}
use Rattle.type_terms.specs.NodeShapes.{children, method_shape}
use Rattle.type_terms.specs.Shapes.{method_types}
use Rattle.type_terms.specs.Replaced.{all_left, all_right}
use Rattle.decl_text.specs.Referring.{node_count}
use Rattle.decl_text.proofs.types.put_type.Goals as goal

pub put_interface-requires-clause-methods : goal.put_interface-requires-clause-methods
put_interface-requires-clause-methods c =
    let count = node_count c.args.names.now in
    let all : AllBelow count (children c.args.node.now) = c.requires in
    subst (λ items. AllBelow count (flat_map method_types (map method_shape items))) (sym c.items-in-Iface-2.ensures)
    (all_right (λ id. id < count) c.in-Iface.embedded (flat_map method_types (map method_shape c.in-Iface.methods)) (subst (λ node. AllBelow count (children node)) c.in-Iface.is all))

pub put_instance-requires-clause-base : goal.put_instance-requires-clause-base
put_instance-requires-clause-base c =
    let count = node_count c.args.names.now in
    (all_right (λ id. id < count) c.in-Instance.args (c.in-Instance.base ∷ []) (subst (λ node. AllBelow count (children node)) c.in-Instance.is c.requires)).0

pub put_instance-requires-clause-args : goal.put_instance-requires-clause-args
put_instance-requires-clause-args c =
    let count = node_count c.args.names.now in
    subst (AllBelow count) (sym c.items-in-Instance.ensures)
    (all_left (λ id. id < count) c.in-Instance.args (c.in-Instance.base ∷ []) (subst (λ node. AllBelow count (children node)) c.in-Instance.is c.requires))
