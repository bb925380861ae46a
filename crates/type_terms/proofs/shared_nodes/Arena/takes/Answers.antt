use Rattle.std.proofs.Common.{sym, ap, subst, ◌∙◌, arith}
use Rattle.type_terms.specs.Arenas.{Contents, IsNode}
use Rattle.type_terms.proofs.InsertionLemmas.{new_from_missing, node_from_found}
use Rattle.type_terms.proofs.shared_nodes.Arena.takes.Goals as goal

pub returns-else-len-self-clause-refuses : goal.returns-else-len-self-clause-refuses
returns-else-len-self-clause-refuses c = λ no.
    rw (← c.self.view_is) (new_from_missing _ _ (sym c.contains.ensures ∙ no), omega (arith, c.self.invariant.1, c.len.ensures.len, c.if-len-self.false))

pub returns-else-len-self-clause-room : goal.returns-else-len-self-clause-room
returns-else-len-self-clause-room c = λ yes new.
    let there = node_from_found _ _ (sym c.contains.ensures ∙ yes) in
    let nodes = ap (λ (contents : Contents). contents.nodes) c.self.view_is in
    absurd (new there.0 (subst (λ nodes. IsNode nodes there.0 c.args.node.now) nodes there.1))
