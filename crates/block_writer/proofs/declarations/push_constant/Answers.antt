use Rattle.std.proofs.Common.{[], ◌∷◌}
use Rattle.file_layout.specs.Items.{a_position, a_type, constant_kind, value_items}
use Rattle.block_writer.specs.Declaring.{last_items}
use Rattle.block_writer.proofs.Declared.{front_behind}
use Rattle.block_writer.proofs.declarations.push_constant.Goals as goal

pub returns : goal.returns
returns c =
    front_behind _ _ _ _ (λ type. a_position c.args.pos.now ∷ a_type (type c.args.ty) ∷ []) (λ type. value_items (constant_kind c.args.basic) c.args.value.now) (last_items (constant_kind c.args.basic) c.args.value.now) c.in_ok-push_var.ensures
    c.push_constant_value.ensures
