use Rattle.std.proofs.Common.{◌*◌, [], ◌∷◌}
use Rattle.decl_spelling.specs.Constants.{spelled, kind_number}
use Rattle.block_reader.specs.Spellings.{spelling_shape}
use Rattle.file_layout.specs.Items.{a_number, spelled_items}
use Rattle.block_writer.specs.Declaring.{last_items}
use Rattle.block_writer.proofs.Declared.{front_behind}
use Rattle.block_writer.proofs.values.push_kind_and_value.Goals as goal

pub returns : goal.returns
returns c =
    front_behind _ _ _ _ (λ type. a_number (2 * kind_number (spelling_shape c.args.spelling)) ∷ []) (λ type. spelled_items (spelling_shape c.args.spelling) c.args.value.now) (last_items (spelled (spelling_shape c.args.spelling)) c.args.value.now) c.in_ok-push_kind.ensures
    c.push_spelled.ensures
