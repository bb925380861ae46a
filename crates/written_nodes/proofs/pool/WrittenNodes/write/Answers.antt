use Rattle.std.proofs.Common.{rules, ◌≡◌, ◌<◌, [], length, Some, ap, sym, subst, ◌∙◌}
use Rattle.type_terms.specs.Denotation.{tree}
use Rattle.written_nodes.specs.Searching.{AreWanted}
use Rattle.written_nodes.proofs.MadeLemmas.{number_is}
use Rattle.written_nodes.proofs.MakingLemmas.{next_there, children_are_made, making_goes, made_at_end}
use Rattle.written_nodes.proofs.pool.WrittenNodes.write.Goals as goal

pub make-requires-clause-there : goal.make-requires-clause-there
make-requires-clause-there c =
    let wanted : AreWanted c.args.arena.now.nodes c.args.self.now.made c.args.id c.in_ok-left.left.items = search rules in
    next_there c.args.arena.now.nodes c.args.self.now.nodes c.args.self.now.made c.args.id c.in_ok-left.left.items wanted c.loop-next.self-inside.nodes c.loop-next.left.items c.pop.new.self.items c.in-Some.next
    c.loop-next.self-inside.made.entries c.loop-next.invariant c.in-Some.ensures.items

pub make-requires-clause-children : goal.make-requires-clause-children
make-requires-clause-children c =
    let wanted : AreWanted c.args.arena.now.nodes c.args.self.now.made c.args.id c.in_ok-left.left.items = search rules in
    children_are_made c.args.arena.now.nodes c.args.self.now.nodes c.args.self.now.made c.args.id c.in_ok-left.left.items wanted c.loop-next.self-inside.nodes c.loop-next.left.items c.pop.new.self.items c.in-Some.next
    c.loop-next.self-inside.made.entries c.loop-next.invariant c.in-Some.ensures.items

pub loop-next-preserved : goal.loop-next-preserved
loop-next-preserved c =
    let wanted : AreWanted c.args.arena.now.nodes c.args.self.now.made c.args.id c.in_ok-left.left.items = search rules in
    let does = c.in_ok-make.ensures in
    making_goes c.args.arena.now.nodes c.args.self.now.nodes c.args.self.now.made c.args.id c.in_ok-left.left.items wanted c.loop-next.self-inside.nodes c.loop-next.left.items c.pop.new.self.items c.in-Some.next
    c.loop-next.self-inside.made.entries c.loop-next.invariant c.in-Some.ensures.items c.make.new.nodes c.make.new.made.entries does.extends does.written does.kept does.made

pub returns-clause-denotes : goal.returns-clause-denotes
returns-clause-denotes c =
    let wanted : AreWanted c.args.arena.now.nodes c.args.self.now.made c.args.id c.in_ok-left.left.items = search rules in
    let empty : c.loop-next.left.items ≡ [] = search rules in
    let made = made_at_end c.args.arena.now.nodes c.args.self.now.nodes c.args.self.now.made c.args.id c.in_ok-left.left.items wanted c.loop-next.self-inside.nodes c.loop-next.left.items c.loop-next.self-inside.made.entries
    c.loop-next.invariant empty in
    ap (tree c.loop-next.self-inside.nodes.nodes) (c.number_for.ensures ∙ number_is c.loop-next.self-inside.made.entries c.args.id made.0 made.1)
    ∙ (c.loop-next.invariant.written.each c.args.id made.0 made.1).denotes

pub returns-clause-within : goal.returns-clause-within
returns-clause-within c =
    let wanted : AreWanted c.args.arena.now.nodes c.args.self.now.made c.args.id c.in_ok-left.left.items = search rules in
    let empty : c.loop-next.left.items ≡ [] = search rules in
    let made = made_at_end c.args.arena.now.nodes c.args.self.now.nodes c.args.self.now.made c.args.id c.in_ok-left.left.items wanted c.loop-next.self-inside.nodes c.loop-next.left.items c.loop-next.self-inside.made.entries
    c.loop-next.invariant empty in
    subst (λ n. n < length c.loop-next.self-inside.nodes.nodes) (sym (c.number_for.ensures ∙ number_is c.loop-next.self-inside.made.entries c.args.id made.0 made.1))
    (c.loop-next.invariant.written.each c.args.id made.0 made.1).within

pub returns-clause-made : goal.returns-clause-made
returns-clause-made c =
    let wanted : AreWanted c.args.arena.now.nodes c.args.self.now.made c.args.id c.in_ok-left.left.items = search rules in
    let empty : c.loop-next.left.items ≡ [] = search rules in
    let made = made_at_end c.args.arena.now.nodes c.args.self.now.nodes c.args.self.now.made c.args.id c.in_ok-left.left.items wanted c.loop-next.self-inside.nodes c.loop-next.left.items c.loop-next.self-inside.made.entries
    c.loop-next.invariant empty in
    made.1 ∙ ap Some (sym (c.number_for.ensures ∙ number_is c.loop-next.self-inside.made.entries c.args.id made.0 made.1))
