use Rattle.std.proofs.Common.{refl}
use Rattle.std.proofs.lemmas.Result.{err_from_is_err_and}
use Rattle.environments.specs.KeptLaws.{kept_again, kept_more}
use Rattle.type_terms.specs.Denotation.{tree}
use Rattle.type_terms.specs.Extensions.{extends_tree}
use Rattle.opened_interfaces.specs.Ways.{first}
use Rattle.opened_interfaces.proofs.TermLemmas.{first_stops, first_goes, way_asked, way_opened}
use Rattle.opened_interfaces.proofs.looking.settle_tested.Goals as goal

pub returns-in_err-no_cycle-clause-exact : goal.returns-in_err-no_cycle-clause-exact
returns-in_err-no_cycle-clause-exact g c =
    let nodes = c.args.arena.now.nodes in
    let p = err_from_is_err_and c.from_residual.result c.from_residual.ensures.1 in
    rw (p.1, p.2) (first_stops (g.E.Env.entries c.args.env.now nodes) (g.E.Env.names c.args.env.now) (tree nodes c.args.ty) c.args.arena.now c.no_cycle.new.arena (g.E.Env.full c.no_cycle.new.env) c.in_err-no_cycle.field-0.0 c.in_err-no_cycle.ensures.exact)

pub returns-in_err-no_cycle-clause-kept : goal.returns-in_err-no_cycle-clause-kept
returns-in_err-no_cycle-clause-kept g c = kept_more _ _ _ _ _ _ _ _ (λ q held. first refl held) (λ t held. first refl held) c.in_err-no_cycle.ensures.kept

pub returns-clause-exact : goal.returns-clause-exact
returns-clause-exact g c =
    let nodes = c.args.arena.now.nodes in
    let middle = c.no_cycle.new.arena in
    let env = c.no_cycle.new.env in
    let does = c.in_ok-no_cycle.ensures in
    let same = extends_tree c.args.arena.now middle does.kept.extends c.args.ty c.requires.there in
    first_goes (g.E.Env.entries env middle.nodes) (g.E.Env.entries c.args.env.now nodes) (g.E.Env.names env) (g.E.Env.names c.args.env.now) (tree middle.nodes c.args.ty) (tree nodes c.args.ty)
    does.kept.entries does.kept.names same c.args.arena.now middle c.expand.new.arena does.kept.extends does.kept.adds (g.E.Env.full c.expand.new.env) c.expand.result does.exact c.expand.ensures.exact

pub returns-clause-kept : goal.returns-clause-kept
returns-clause-kept g c =
    let nodes = c.args.arena.now.nodes in
    let middle = c.no_cycle.new.arena in
    let env = c.no_cycle.new.env in
    let does = c.in_ok-no_cycle.ensures in
    let same = extends_tree c.args.arena.now middle does.kept.extends c.args.ty c.requires.there in
    kept_again _ _ _ _ _ _ _ _ (kept_more _ _ _ _ _ _ _ _ (λ q held. first refl held) (λ t held. first refl held) does.kept)
    (kept_more _ _ _ _ _ _ _ _
    (way_asked (g.E.Env.entries env middle.nodes) (g.E.Env.entries c.args.env.now nodes) (g.E.Env.names env) (g.E.Env.names c.args.env.now) (tree middle.nodes c.args.ty) (tree nodes c.args.ty) does.kept.entries does.kept.names same _)
    (way_opened (g.E.Env.entries env middle.nodes) (g.E.Env.entries c.args.env.now nodes) (g.E.Env.names env) (g.E.Env.names c.args.env.now) (tree middle.nodes c.args.ty) (tree nodes c.args.ty) does.kept.entries does.kept.names same _)
    c.expand.ensures.kept)
