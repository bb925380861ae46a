use Rattle.std.proofs.Common.{◌<◌, ◌∷◌, sym, subst, map}
use Rattle.std.specs.List.{flat_map}
use Rattle.type_terms.specs.Arenas.{AllBelow}
use Rattle.type_terms.specs.Declarations.{receiver_types, receiver_shape, decl_nodes}
use Rattle.type_terms.specs.Replaced.{all_right}
use Rattle.decl_text.specs.Referring.{node_count}
use Rattle.decl_text.proofs.decls.put_method_lines.Goals as goal

pub put_methods-requires : goal.put_methods-requires
put_methods-requires c =
    let count = node_count c.args.names.now in
    let rest = flat_map receiver_types (map receiver_shape c.in-Defined.methods) in
    let all = subst (λ decl. AllBelow count (decl_nodes decl)) c.in-Defined.is c.requires in
    subst (λ methods. AllBelow count (flat_map receiver_types (map receiver_shape methods))) (sym c.items.ensures)
    (all_right (λ id. id < count) c.in-Defined.tparams (c.in-Defined.underlying ∷ rest) all).1
