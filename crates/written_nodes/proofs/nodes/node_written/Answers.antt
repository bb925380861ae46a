use Rattle.std.proofs.Common.{length}
use Rattle.written_nodes.specs.Pools.{number_for}
use Rattle.written_nodes.proofs.ChildLemmas.{elements_bound}
use Rattle.written_nodes.proofs.nodes.node_written.Goals as goal

pub interface_written-requires : goal.interface_written-requires
interface_written-requires c =
    elements_bound (number_for c.args.made.now.entries) (length c.args.nodes.now.nodes) c.args.node.now c.in-Iface.home c.in-Iface.embedded c.in-Iface.methods c.in-Iface.is c.requires
    c.items-in-Iface.result.now c.items-in-Iface.ensures
