use Rattle.std.proofs.Common.{◌≡◌, ap, subst, length, rules}
use Rattle.type_terms.specs.AdditionLaws.{full_outgrown, inserted_adds}
use Rattle.type_terms.specs.Arenas.{Contents, IsNew, IsArena}
use Rattle.type_terms.proofs.shared_nodes.Arena.add.Goals as goal

pub returns-then-not-takes-clause-outgrown : goal.returns-then-not-takes-clause-outgrown
returns-then-not-takes-clause-outgrown c = λ full.
    let nodes = ap (λ (contents : Contents). contents.nodes) c.self.view_is in
    let arena : IsArena c.args.self.now.nodes = subst IsArena nodes c.self.invariant.0 in
    let new : IsNew c.args.self.now.nodes c.args.node = search rules in
    let at_limit : length c.args.self.now.nodes ≡ c.args.self.now.limit = search rules in
    full_outgrown c.args.self.now arena c.args.node c.requires.children new at_limit

pub returns-clause-adds : goal.returns-clause-adds
returns-clause-adds c = rw (← c.self.view_is) (inserted_adds _ _ _ _ c.in-Ok.ensures.inserted)
