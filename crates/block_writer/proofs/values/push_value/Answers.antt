use Rattle.std.proofs.Common.{subst, sym}
use Rattle.std.specs.Prelude.{OnOk}
use Rattle.file_layout.specs.Items.{value_items}
use Rattle.block_reader.specs.declared.values.Kind.{Kind}
use Rattle.block_reader.specs.Spellings.{kind_shape}
use Rattle.block_writer.specs.Declaring.{AddsFront, last_items}
use Rattle.block_writer.proofs.values.push_value.Goals as goal

pub returns-in-Spelled : goal.returns-in-Spelled
returns-in-Spelled c =
    subst
    (λ (kind : Kind). OnOk c.push_kind_and_value.result (AddsFront c.args.into.now.items c.push_kind_and_value.new.into.items (λ type. value_items (kind_shape kind) c.args.value.now) (last_items (kind_shape kind) c.args.value.now))) (sym c.in-Spelled.is)
    c.push_kind_and_value.ensures
