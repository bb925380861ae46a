use Rattle.std.proofs.Common.{rules, ◌≡◌, false, Some, ap, sym, ◌∙◌, subst}
use Rattle.std.specs.Prelude.{option_map, IsSomeAnd}
use Rattle.std.specs.List.{list_any}
use Rattle.std.proofs.lemmas.Result.{err_from_is_err_and}
use Rattle.type_terms.specs.Denotation.{tree}
use Rattle.type_terms.specs.TreeEquality.{same_name}
use Rattle.replacement.specs.Expansion.{alias_use, alias_right}
use Rattle.replacement.specs.Calls.{applied, OpensSide}
use Rattle.environments.specs.KeptLaws.{kept_more}
use Rattle.replacement.proofs.ExpandingLemmas.{led_stops}
use Rattle.replacement.proofs.expanding.follow.Goals as goal

pub returns-in_err-right-clause-exact : goal.returns-in_err-right-clause-exact
returns-in_err-right-clause-exact g c =
    let nodes = c.args.arena.now.nodes in
    let entries = g.E.Env.entries c.args.env.now nodes in
    let head = applied nodes c.in-Some.head.name c.deref.result.now in
    let used : alias_use (tree nodes c.args.node) ≡ Some head =
    c.in-Ok.ensures.head ∙ ap (option_map (λ head. applied nodes head.name head.args.items)) c.in-Some.is
    ∙ ap (λ ids. Some (applied nodes c.in-Some.head.name ids)) (sym c.deref.ensures.value) in
    let fresh : list_any (same_name c.in-Some.head.name) c.args.met.now.keys ≡ false = search rules in
    let p = err_from_is_err_and c.from_residual.result c.from_residual.ensures.1 in
    rw (p.1, p.2) (led_stops entries c.args.met.now.keys (tree nodes c.args.node) head used fresh c.args.arena.now (g.E.Env.full c.right_of_alias.new.env) c.in_err-right.field-0.0 c.in_err-right.ensures.exact)

pub returns-in_err-right-clause-kept : goal.returns-in_err-right-clause-kept
returns-in_err-right-clause-kept g c =
    let nodes = c.args.arena.now.nodes in
    let entries = g.E.Env.entries c.args.env.now nodes in
    let head = applied nodes c.in-Some.head.name c.deref.result.now in
    let used : alias_use (tree nodes c.args.node) ≡ Some head =
    c.in-Ok.ensures.head ∙ ap (option_map (λ head. applied nodes head.name head.args.items)) c.in-Some.is
    ∙ ap (λ ids. Some (applied nodes c.in-Some.head.name ids)) (sym c.deref.ensures.value) in
    kept_more _ _ _ _ _ _ _ _
    (λ name is. subst (λ o. IsSomeAnd o (λ head. name ≡ head.name)) (sym used) is)
    (λ opened held. subst (λ o. IsSomeAnd o (λ head. OpensSide (entries head.name) (alias_right entries head) opened)) (sym used) held) c.in_err-right.ensures.kept

pub returns-clause-kept : goal.returns-clause-kept
returns-clause-kept g c =
    let nodes = c.args.arena.now.nodes in
    let entries = g.E.Env.entries c.args.env.now nodes in
    let head = applied nodes c.in-Some.head.name c.deref.result.now in
    let used : alias_use (tree nodes c.args.node) ≡ Some head =
    c.in-Ok.ensures.head ∙ ap (option_map (λ head. applied nodes head.name head.args.items)) c.in-Some.is
    ∙ ap (λ ids. Some (applied nodes c.in-Some.head.name ids)) (sym c.deref.ensures.value) in
    kept_more _ _ _ _ _ _ _ _
    (λ name is. subst (λ o. IsSomeAnd o (λ head. name ≡ head.name)) (sym used) is)
    (λ opened held. subst (λ o. IsSomeAnd o (λ head. OpensSide (entries head.name) (alias_right entries head) opened)) (sym used) held) c.in_ok-right.ensures.kept
