use Rattle.std.proofs.Common.{rules, ◌≡◌, ◌++◌, length, sym, subst, ap, ◌∙◌}
use Rattle.type_terms.specs.declared.descriptors.Node.TheVariants.{Param, AliasName, Iface, Instance}
use Rattle.whole_terms.specs.Tables.{table_of}
use Rattle.whole_terms.specs.Looks.{stack, interface_tasks}
use Rattle.whole_terms.proofs.TestLemmas.{then_ok}
use Rattle.whole_terms.proofs.OpenLemmas.{opens_parts, opens_look, opens_alias, opens_instance, opens_interface, plain_when}
use Rattle.whole_terms.proofs.opening.open.Goals as goal

pub returns-in-Param : goal.returns-in-Param
returns-in-Param c =
    let nodes = c.args.arena.now.nodes in
    let table = table_of c.args.table.now.entries in
    let is : c.node-node.result.now ≡ Param c.in-Param.q = search rules in
    then_ok c.put_look.result (opens_look nodes table c.args.id c.node-node.result.now c.node-node.ensures.denotes c.node-node.ensures.falls (stack c.args.tasks.now.items) (stack c.put_look.new.tasks.items) c.in-Param.q is) c.put_look.ensures

pub returns-in-AliasName : goal.returns-in-AliasName
returns-in-AliasName c =
    let nodes = c.args.arena.now.nodes in
    let table = table_of c.args.table.now.entries in
    let is : c.node-node.result.now ≡ AliasName c.in-AliasName.q = search rules in
    then_ok c.put_use.result (opens_alias nodes table c.args.id c.node-node.result.now c.node-node.ensures.denotes c.node-node.ensures.falls (stack c.args.tasks.now.items) (stack c.put_use.new.tasks.items) c.in-AliasName.q is) c.put_use.ensures

pub returns-in-Instance : goal.returns-in-Instance
returns-in-Instance c =
    let nodes = c.args.arena.now.nodes in
    let table = table_of c.args.table.now.entries in
    let is : c.node-node.result.now ≡ Instance c.in-Instance.base c.items.result.now = search rules in
    then_ok c.put_instance.result (opens_instance nodes table c.args.id c.node-node.result.now c.node-node.ensures.denotes c.node-node.ensures.falls (stack c.args.tasks.now.items) (stack c.put_instance.new.tasks.items) c.in-Instance.base c.items.result.now is) c.put_instance.ensures

pub returns-in-Iface : goal.returns-in-Iface
returns-in-Iface c =
    let nodes = c.args.arena.now.nodes in
    let table = table_of c.args.table.now.entries in
    let is : c.node-node.result.now ≡ Iface c.in-Iface.field-0 c.items-in-Iface.result.now c.items-in-Iface-2.result.now = search rules in
    then_ok c.put_interface.result (opens_interface nodes table c.args.id c.node-node.result.now c.node-node.ensures.denotes c.node-node.ensures.falls (stack c.args.tasks.now.items) (stack c.put_interface.new.tasks.items) _ c.items-in-Iface.result.now c.items-in-Iface-2.result.now is) c.put_interface.ensures

pub returns-in_default : goal.returns-in_default
returns-in_default c =
    let nodes = c.args.arena.now.nodes in
    let table = table_of c.args.table.now.entries in
    let plain = plain_when nodes table c.args.id c.node-node.result.now c.node-node.ensures.denotes c.node-node.ensures.falls (stack c.args.tasks.now.items) (stack c.put_parts.new.tasks.items)
    c.in_default.not-Param c.in_default.not-AliasName c.in_default.not-Instance c.in_default.not-Iface in
    then_ok c.put_parts.result (opens_parts nodes table c.args.id c.node-node.result.now c.node-node.ensures.denotes c.node-node.ensures.falls (stack c.args.tasks.now.items) (stack c.put_parts.new.tasks.items) plain) c.put_parts.ensures
