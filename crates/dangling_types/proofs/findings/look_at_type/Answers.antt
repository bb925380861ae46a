use Rattle.std.proofs.Common.{rules, ◌≡◌, [], sym, subst}
use Rattle.dangling_types.specs.Findings.{IsRight}
use Rattle.dangling_types.proofs.KnowingLemmas.{next_there, children_are_known, looking_begins, looking_goes, known_at_end, right_for}
use Rattle.dangling_types.proofs.findings.look_at_type.Goals as goal

pub loop-next-init : goal.loop-next-init
loop-next-init g c =
    looking_begins (g.R.Roles.entries c.args.roles.now) c.args.arena.now.nodes c.args.known.now.entries c.args.id c.in_ok-left.left.items c.in_ok-left.ensures c.requires.right

pub come_to_know-requires-clause-there : goal.come_to_know-requires-clause-there
come_to_know-requires-clause-there g c =
    next_there (g.R.Roles.entries c.args.roles.now) c.args.arena.now.nodes c.args.known.now.entries c.args.id c.in_ok-left.left.items c.in_ok-left.ensures
    c.loop-next.left.items c.pop.new.self.items c.in-Some.next c.loop-next.known.entries c.loop-next.invariant c.in-Some.ensures.items

pub come_to_know-requires-clause-children : goal.come_to_know-requires-clause-children
come_to_know-requires-clause-children g c =
    children_are_known (g.R.Roles.entries c.args.roles.now) c.args.arena.now.nodes c.args.known.now.entries c.args.id c.in_ok-left.left.items c.in_ok-left.ensures
    c.loop-next.left.items c.pop.new.self.items c.in-Some.next c.loop-next.known.entries c.loop-next.invariant c.in-Some.ensures.items

pub loop-next-preserved : goal.loop-next-preserved
loop-next-preserved g c =
    let does = c.in_ok-come_to_know.ensures in
    looking_goes (g.R.Roles.entries c.args.roles.now) c.args.arena.now.nodes c.args.known.now.entries c.args.id c.in_ok-left.left.items c.in_ok-left.ensures
    c.loop-next.left.items c.pop.new.self.items c.in-Some.next c.loop-next.known.entries c.loop-next.invariant c.in-Some.ensures.items
    c.come_to_know.new.known.entries does.right does.kept does.known

pub returns-clause-first : goal.returns-clause-first
returns-clause-first g c =
    let entries = g.R.Roles.entries c.args.roles.now in
    let nodes = c.args.arena.now.nodes in
    let empty : c.loop-next.left.items ≡ [] = search rules in
    let last = known_at_end entries nodes c.args.known.now.entries c.args.id c.in_ok-left.left.items c.in_ok-left.ensures c.loop-next.left.items c.loop-next.known.entries c.loop-next.invariant empty in
    subst (IsRight entries nodes c.args.id) (sym c.finding_for.ensures) (right_for entries nodes c.loop-next.known.entries c.loop-next.invariant.right c.args.id last)
