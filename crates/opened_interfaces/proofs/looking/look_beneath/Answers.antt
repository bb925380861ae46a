use Rattle.std.proofs.Common.{inl, inr, subst}
use Rattle.std.specs.Prelude.{IfSome, length}
use Rattle.std.proofs.lemmas.Result.{err_from_is_err_and}
use Rattle.environments.specs.KeptLaws.{kept_again, kept_more}
use Rattle.interface_nodes.specs.HeldNodes.{held_nodes}
use Rattle.type_sets.specs.TypeSets.{name_of}
use Rattle.type_terms.specs.Arenas.{AllBelow}
use Rattle.type_terms.specs.Denotation.{tree}
use Rattle.type_terms.specs.Extensions.{extends_tree}
use Rattle.opened_interfaces.proofs.TermLemmas.{held_stops, held_found, held_none, none_stops, none_goes, mention_asked, mention_opened}
use Rattle.opened_interfaces.proofs.looking.look_beneath.Goals as goal

pub returns-in_err-held-clause-exact : goal.returns-in_err-held-clause-exact
returns-in_err-held-clause-exact g c =
    let nodes = c.args.arena.now.nodes in
    let entries = g.E.Env.entries c.args.env.now nodes in
    let names = g.E.Env.names c.args.env.now in
    let p = err_from_is_err_and c.from_residual.result c.from_residual.ensures.1 in
    rw (p.1, p.2) (held_stops entries names (tree nodes c.args.x) (tree nodes c.args.ty) c.args.arena.now c.held_beneath.new.arena (g.E.Env.full c.held_beneath.new.env) c.in_err-held.field-0.0 (c.in_err-held.ensures.exact (name_of entries names (tree nodes c.args.x))))

pub returns-in_err-held-clause-kept : goal.returns-in_err-held-clause-kept
returns-in_err-held-clause-kept g c = kept_more _ _ _ _ _ _ _ _ (λ q held. inl held) (λ t held. inl held) c.in_err-held.ensures.kept

pub returns-in_err-whole-in-None-clause-exact : goal.returns-in_err-whole-in-None-clause-exact
returns-in_err-whole-in-None-clause-exact g c =
    let nodes = c.args.arena.now.nodes in
    let entries = g.E.Env.entries c.args.env.now nodes in
    let names = g.E.Env.names c.args.env.now in
    let middle = c.held_beneath.new.arena in
    let env = c.held_beneath.new.env in
    let does = c.in_ok-held.ensures in
    let same = extends_tree c.args.arena.now middle does.kept.extends c.args.ty c.requires.term in
    let none = held_none entries names (tree nodes c.args.x) middle c.in_ok-held.field-0 c.in-None.is (does.exact (name_of entries names (tree nodes c.args.x))).0 in
    let p = err_from_is_err_and c.from_residual-in_err-whole-in-None.result c.from_residual-in_err-whole-in-None.ensures.1 in
    rw (p.1, p.2) (none_stops (g.E.Env.entries env middle.nodes) entries (g.E.Env.names env) names (tree middle.nodes c.args.ty) (tree nodes c.args.ty) does.kept.entries does.kept.names same
    (tree nodes c.args.x) none c.args.arena.now middle c.whole.new.arena does.kept.extends does.kept.adds (g.E.Env.full c.whole.new.env) c.in_err-whole-in-None.field-0.0 c.in_err-whole-in-None.ensures.exact)

pub returns-in_err-whole-in-None-clause-kept : goal.returns-in_err-whole-in-None-clause-kept
returns-in_err-whole-in-None-clause-kept g c =
    let nodes = c.args.arena.now.nodes in
    let entries = g.E.Env.entries c.args.env.now nodes in
    let names = g.E.Env.names c.args.env.now in
    let middle = c.held_beneath.new.arena in
    let env = c.held_beneath.new.env in
    let does = c.in_ok-held.ensures in
    let same = extends_tree c.args.arena.now middle does.kept.extends c.args.ty c.requires.term in
    let none = held_none entries names (tree nodes c.args.x) middle c.in_ok-held.field-0 c.in-None.is (does.exact (name_of entries names (tree nodes c.args.x))).0 in
    kept_again _ _ _ _ _ _ _ _ (kept_more _ _ _ _ _ _ _ _ (λ q held. inl held) (λ t held. inl held) does.kept)
    (kept_more _ _ _ _ _ _ _ _
    (λ q held. inr (none, mention_asked (g.E.Env.entries env middle.nodes) entries (g.E.Env.names env) names (tree middle.nodes c.args.ty) (tree nodes c.args.ty) does.kept.entries does.kept.names same q held))
    (λ t held. inr (none, mention_opened (g.E.Env.entries env middle.nodes) entries (g.E.Env.names env) names (tree middle.nodes c.args.ty) (tree nodes c.args.ty) does.kept.entries does.kept.names same t held))
    c.in_err-whole-in-None.ensures.kept)

pub returns-in-Some-clause-exact : goal.returns-in-Some-clause-exact
returns-in-Some-clause-exact g c =
    let nodes = c.args.arena.now.nodes in
    let entries = g.E.Env.entries c.args.env.now nodes in
    let names = g.E.Env.names c.args.env.now in
    let middle = c.held_beneath.new.arena in
    let exact = c.in_ok-held.ensures.exact (name_of entries names (tree nodes c.args.x)) in (
      held_found entries names (tree nodes c.args.x) (tree nodes c.args.ty) middle c.in_ok-held.field-0 c.in-Some.held c.in-Some.is exact.0,
      subst (λ o. IfSome o (λ x. AllBelow (length middle.nodes) (held_nodes x))) c.in-Some.is exact.1,
    )

pub returns-in-Some-clause-kept : goal.returns-in-Some-clause-kept
returns-in-Some-clause-kept g c = kept_more _ _ _ _ _ _ _ _ (λ q held. inl held) (λ t held. inl held) c.in_ok-held.ensures.kept

pub returns-in_ok-whole-in-None-clause-exact : goal.returns-in_ok-whole-in-None-clause-exact
returns-in_ok-whole-in-None-clause-exact g c =
    let nodes = c.args.arena.now.nodes in
    let entries = g.E.Env.entries c.args.env.now nodes in
    let names = g.E.Env.names c.args.env.now in
    let middle = c.held_beneath.new.arena in
    let env = c.held_beneath.new.env in
    let does = c.in_ok-held.ensures in
    let same = extends_tree c.args.arena.now middle does.kept.extends c.args.ty c.requires.term in
    let none = held_none entries names (tree nodes c.args.x) middle c.in_ok-held.field-0 c.in-None.is (does.exact (name_of entries names (tree nodes c.args.x))).0 in (
      none_goes (g.E.Env.entries env middle.nodes) entries (g.E.Env.names env) names (tree middle.nodes c.args.ty) (tree nodes c.args.ty) does.kept.entries does.kept.names same
          (tree nodes c.args.x) none c.in_ok-whole-in-None.ensures.exact,
      tt,
    )

pub returns-in_ok-whole-in-None-clause-kept : goal.returns-in_ok-whole-in-None-clause-kept
returns-in_ok-whole-in-None-clause-kept g c =
    let nodes = c.args.arena.now.nodes in
    let entries = g.E.Env.entries c.args.env.now nodes in
    let names = g.E.Env.names c.args.env.now in
    let middle = c.held_beneath.new.arena in
    let env = c.held_beneath.new.env in
    let does = c.in_ok-held.ensures in
    let same = extends_tree c.args.arena.now middle does.kept.extends c.args.ty c.requires.term in
    let none = held_none entries names (tree nodes c.args.x) middle c.in_ok-held.field-0 c.in-None.is (does.exact (name_of entries names (tree nodes c.args.x))).0 in
    kept_again _ _ _ _ _ _ _ _ (kept_more _ _ _ _ _ _ _ _ (λ q held. inl held) (λ t held. inl held) does.kept)
    (kept_more _ _ _ _ _ _ _ _
    (λ q held. inr (none, mention_asked (g.E.Env.entries env middle.nodes) entries (g.E.Env.names env) names (tree middle.nodes c.args.ty) (tree nodes c.args.ty) does.kept.entries does.kept.names same q held))
    (λ t held. inr (none, mention_opened (g.E.Env.entries env middle.nodes) entries (g.E.Env.names env) names (tree middle.nodes c.args.ty) (tree nodes c.args.ty) does.kept.entries does.kept.names same t held))
    c.in_ok-whole-in-None.ensures.kept)
