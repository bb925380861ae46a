use Rattle.std.proofs.Common.{◌≡◌, Some, ap, sym, ◌∙◌, subst}
use Rattle.std.specs.Prelude.{option_map, IsSomeAnd}
use Rattle.type_terms.specs.Denotation.{tree}
use Rattle.replacement.specs.Expansion.{defined_use, defined_right}
use Rattle.replacement.specs.Calls.{applied, OpensSide}
use Rattle.environments.specs.KeptLaws.{kept_more}
use Rattle.replacement.proofs.UnderlyingLemmas.{beneath_gives}
use Rattle.replacement.proofs.underlying.right_beneath.Goals as goal

pub returns-clause-exact : goal.returns-clause-exact
returns-clause-exact g c =
    let nodes = c.args.arena.now.nodes in
    let entries = g.E.Env.entries c.args.env.now nodes in
    let head = applied nodes c.in-Some.head.name c.deref.result.now in
    let used : defined_use (tree nodes c.args.node) ≡ Some head =
    c.in-Ok.ensures.head ∙ ap (option_map (λ head. applied nodes head.name head.args.items)) c.in-Some.is
    ∙ ap (λ ids. Some (applied nodes c.in-Some.head.name ids)) (sym c.deref.ensures.value) in
    beneath_gives entries (tree nodes c.args.node) head used c.args.arena.now c.right_of_defined.new.arena (g.E.Env.full c.right_of_defined.new.env) c.right_of_defined.result c.right_of_defined.ensures.exact

pub returns-clause-kept : goal.returns-clause-kept
returns-clause-kept g c =
    let nodes = c.args.arena.now.nodes in
    let entries = g.E.Env.entries c.args.env.now nodes in
    let head = applied nodes c.in-Some.head.name c.deref.result.now in
    let used : defined_use (tree nodes c.args.node) ≡ Some head =
    c.in-Ok.ensures.head ∙ ap (option_map (λ head. applied nodes head.name head.args.items)) c.in-Some.is
    ∙ ap (λ ids. Some (applied nodes c.in-Some.head.name ids)) (sym c.deref.ensures.value) in
    kept_more _ _ _ _ _ _ _ _
    (λ name is. subst (λ o. IsSomeAnd o (λ head. name ≡ head.name)) (sym used) is)
    (λ opened held. subst (λ o. IsSomeAnd o (λ head. OpensSide (entries head.name) (defined_right entries head) opened)) (sym used) held) c.right_of_defined.ensures.kept
