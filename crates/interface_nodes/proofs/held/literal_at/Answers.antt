use Rattle.std.proofs.Common.{rules, ◌≡◌, length, map, ap, ◌∙◌}
use Rattle.type_terms.specs.declared.descriptors.Node.TheVariants.{Iface}
use Rattle.type_terms.specs.Denotation.{tree}
use Rattle.interface_nodes.specs.HeldNodes.{set_method_of}
use Rattle.interface_nodes.proofs.HeldLemmas.{literal_meant, literal_within}
use Rattle.interface_nodes.proofs.held.literal_at.Goals as goal

pub returns-in_ok-embedded-in-Iface-clause-exact : goal.returns-in_ok-embedded-in-Iface-clause-exact
returns-in_ok-embedded-in-Iface-clause-exact c name =
    let nodes = c.args.arena.now.nodes in
    let node : c.node.result.now ≡ Iface c.in-Iface.home c.in-Iface.embedded c.in-Iface.own = search rules in
    literal_meant nodes (tree nodes c.args.under) c.node.result.now c.in-Iface.home c.in-Iface.embedded c.in-Iface.own name c.node.ensures.denotes node
    c.in_ok-own-in-Iface.own.items (c.in_ok-own-in-Iface.ensures ∙ ap (map (set_method_of c.in-Iface.home)) c.items.ensures)
    c.in_ok-embedded-in-Iface.embedded.items (c.in_ok-embedded-in-Iface.ensures.items ∙ c.items-in-Iface.ensures)

pub returns-in_ok-embedded-in-Iface-clause-within : goal.returns-in_ok-embedded-in-Iface-clause-within
returns-in_ok-embedded-in-Iface-clause-within c =
    let node : c.node.result.now ≡ Iface c.in-Iface.home c.in-Iface.embedded c.in-Iface.own = search rules in
    literal_within (length c.args.arena.now.nodes) c.args.under c.requires.there c.node.result.now c.in-Iface.home c.in-Iface.embedded c.in-Iface.own c.node.ensures.falls node
    c.in_ok-own-in-Iface.own.items (c.in_ok-own-in-Iface.ensures ∙ ap (map (set_method_of c.in-Iface.home)) c.items.ensures)
    c.in_ok-embedded-in-Iface.embedded.items (c.in_ok-embedded-in-Iface.ensures.items ∙ c.items-in-Iface.ensures)
