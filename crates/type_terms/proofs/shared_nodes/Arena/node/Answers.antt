use Rattle.std.proofs.Common.{ap, subst, rules}
use Rattle.type_terms.specs.Arenas.{Contents, IsNode, IsArena}
use Rattle.type_terms.specs.Denoted.{tree_unfolds}
use Rattle.type_terms.proofs.shared_nodes.Arena.node.Goals as goal

pub returns-clause-denotes : goal.returns-clause-denotes
returns-clause-denotes c =
    let nodes = ap (λ (contents : Contents). contents.nodes) c.self.view_is in
    let arena : IsArena c.args.self.now.nodes = subst IsArena nodes c.self.invariant.0 in
    let is : IsNode c.args.self.now.nodes c.args.id c.unwrap.result.now = search rules in
    tree_unfolds c.args.self.now.nodes c.args.id c.unwrap.result.now is (arena.falls c.args.id c.unwrap.result.now is)
