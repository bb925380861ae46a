use Rattle.std.proofs.Common.{[], ◌∷◌, ◌++◌, map, ap, append_assoc, List}
use Rattle.file_layout.specs.Items.{Item, a_position, a_type, generic_items, methods_items}
use Rattle.block_writer.specs.Adding.{receivers_over}
use Rattle.block_writer.proofs.Added.{adds_as, adds_behind}
use Rattle.block_writer.proofs.declarations.push_defined.Goals as goal

pub returns : goal.returns
returns c =
    adds_as _ _ _ (λ type. (a_position c.args.pos.now ∷ (generic_items (map type c.args.tparams.now) ++ a_type (type c.args.underlying) ∷ [])) ++ methods_items c.args.has_methods (receivers_over type c.args.methods.now))
    (λ type. a_position c.args.pos.now ∷ (generic_items (map type c.args.tparams.now) ++ a_type (type c.args.underlying) ∷ methods_items c.args.has_methods (receivers_over type c.args.methods.now)))
    (λ type. ap (λ (rest : List Item). a_position c.args.pos.now ∷ rest) (append_assoc (generic_items (map type c.args.tparams.now)) (a_type (type c.args.underlying) ∷ []) (methods_items c.args.has_methods (receivers_over type c.args.methods.now))))
    (adds_behind _ _ _ _ (λ type. a_position c.args.pos.now ∷ (generic_items (map type c.args.tparams.now) ++ a_type (type c.args.underlying) ∷ [])) (λ type. methods_items c.args.has_methods (receivers_over type c.args.methods.now)) c.in_ok-push_type_name.ensures
    c.push_methods.ensures)
