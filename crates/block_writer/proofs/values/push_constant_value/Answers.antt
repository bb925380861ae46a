use Rattle.std.proofs.Common.{subst}
use Rattle.std.specs.Prelude.{OnOk}
use Rattle.decl_spelling.specs.Constants.{Kind}
use Rattle.file_layout.specs.Items.{value_items}
use Rattle.block_writer.specs.Declaring.{AddsFront, last_items}
use Rattle.block_writer.proofs.values.push_constant_value.Goals as goal

pub returns : goal.returns
returns c =
    subst (λ (kind : Kind). OnOk c.push_value.result (AddsFront c.args.into.now.items c.push_value.new.into.items (λ type. value_items kind c.args.value.now) (last_items kind c.args.value.now))) c.constant_kind.ensures.exact c.push_value.ensures
