use Rattle.std.proofs.Common.{rules, ◌≡◌, Some, sym, subst}
use Rattle.type_terms.specs.Additions.{AddsOnly}
use Rattle.type_terms.specs.Denotation.{tree}
use Rattle.interface_nodes.specs.HeldNodes.{made_for}
use Rattle.type_terms.specs.Names.{basic_of}
use Rattle.interface_nodes.proofs.HeldLemmas.{basic_told}
use Rattle.interface_nodes.proofs.held.held_at.Goals as goal

pub returns-in-Some-clause-adds : goal.returns-in-Some-clause-adds
returns-in-Some-clause-adds c =
    let type = tree c.args.arena.now.nodes c.args.under in
    let is : basic_of type ≡ Some c.in-Some.basic = search rules in
    subst (λ t. AddsOnly (made_for t) c.args.arena.now c.predeclared_at.new.arena) (sym (basic_told type c.in-Some.basic is)) c.predeclared_at.ensures.adds
