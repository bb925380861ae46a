use Rattle.std.proofs.Common.{◌<◌, [], ◌∷◌, sym, subst, map}
use Rattle.std.specs.List.{flat_map}
use Rattle.type_terms.specs.Arenas.{AllBelow}
use Rattle.type_terms.specs.Declarations.{receiver_types, receiver_shape, decl_nodes}
use Rattle.type_terms.specs.NodeShapes.{sig_shape}
use Rattle.type_terms.specs.Shapes.{sig_types}
use Rattle.type_terms.specs.Replaced.{all_left, all_right}
use Rattle.decl_text.specs.Referring.{node_count}
use Rattle.decl_text.proofs.decls.put_form.Goals as goal

pub put_function-requires-clause-sig : goal.put_function-requires-clause-sig
put_function-requires-clause-sig c =
    let count = node_count c.args.names.now in
    all_right (λ id. id < count) c.in-Func.tparams (sig_types (sig_shape c.in-Func.sig)) (subst (λ decl. AllBelow count (decl_nodes decl)) c.in-Func.is c.requires)

pub put_named-requires-clause-tparams : goal.put_named-requires-clause-tparams
put_named-requires-clause-tparams c =
    let count = node_count c.args.names.now in
    let rest = c.in-Defined.underlying ∷ flat_map receiver_types (map receiver_shape c.in-Defined.methods) in
    subst (AllBelow count) (sym c.items-in-Defined.ensures)
    (all_left (λ id. id < count) c.in-Defined.tparams rest (subst (λ decl. AllBelow count (decl_nodes decl)) c.in-Defined.is c.requires))

pub put_named-requires-clause-there : goal.put_named-requires-clause-there
put_named-requires-clause-there c =
    let count = node_count c.args.names.now in
    let rest = c.in-Defined.underlying ∷ flat_map receiver_types (map receiver_shape c.in-Defined.methods) in
    (all_right (λ id. id < count) c.in-Defined.tparams rest (subst (λ decl. AllBelow count (decl_nodes decl)) c.in-Defined.is c.requires)).0

pub put_named-requires-in-Alias-clause-tparams : goal.put_named-requires-in-Alias-clause-tparams
put_named-requires-in-Alias-clause-tparams c =
    let count = node_count c.args.names.now in
    subst (AllBelow count) (sym c.items-in-Alias.ensures)
    (all_left (λ id. id < count) c.in-Alias.tparams (c.in-Alias.ty ∷ []) (subst (λ decl. AllBelow count (decl_nodes decl)) c.in-Alias.is c.requires))

pub put_named-requires-in-Alias-clause-there : goal.put_named-requires-in-Alias-clause-there
put_named-requires-in-Alias-clause-there c =
    let count = node_count c.args.names.now in
    (all_right (λ id. id < count) c.in-Alias.tparams (c.in-Alias.ty ∷ []) (subst (λ decl. AllBelow count (decl_nodes decl)) c.in-Alias.is c.requires)).0
