use Rattle.std.proofs.Common.{rules, ◌≡◌, length, map, refl, ap, sym, ◌∙◌, subst, inl}
use Rattle.std.specs.List.{All}
use Rattle.std.proofs.lemmas.Result.{err_from_is_err_and}
use Rattle.environments.specs.Environments.{given_decl}
use Rattle.environments.specs.EntryLaws.{extends_env}
use Rattle.type_terms.specs.declared.declarations.DeclNode.TheVariants.{Defined}
use Rattle.type_terms.specs.Declarations.{decl_of}
use Rattle.type_terms.specs.Arenas.{AllBelow}
use Rattle.type_terms.specs.Extensions.{extends_below}
use Rattle.type_terms.specs.Denotation.{tree}
use Rattle.type_terms.specs.DeclarationRules.{IsTypeParameter}
use Rattle.replacement.specs.Expansion.{then, put_each, defined_side}
use Rattle.replacement.specs.Calls.{applied, GivesSide, AddsSide}
use Rattle.environments.specs.KeptLaws.{kept_more}
use Rattle.replacement.proofs.KeptLemmas.{stops_more, side_gives, side_kept}
use Rattle.replacement.proofs.ParameterLemmas.{defined_parameters, defined_below, side_is}
use Rattle.replacement.proofs.underlying.right_of_defined.Goals as goal

pub returns-in_err-given-clause-exact : goal.returns-in_err-given-clause-exact
returns-in_err-given-clause-exact g c =
    let head = applied c.args.arena.now.nodes c.args.q.now c.args.args.now in
    let p = err_from_is_err_and c.from_residual.result c.from_residual.ensures.1 in
    rw (p.1, p.2) (stops_more _ _ c.args.arena.now (λ type held. inl held) (g.E.Env.full c.given_for.new.env) c.in_err-given.field-0.0 _ _ (λ is. ap (λ r. then r (defined_side head)) is) c.in_err-given.ensures.exact)

pub returns-in_err-given-clause-kept : goal.returns-in_err-given-clause-kept
returns-in_err-given-clause-kept g c = kept_more _ _ _ _ _ _ _ _ (λ q is. is) (λ type held. inl held) c.in_err-given.ensures.kept

pub put_in-requires-clause-there : goal.put_in-requires-clause-there
put_in-requires-clause-there g c =
    let given = given_decl c.in_ok-given.given in
    let node : given ≡ Defined c.in-Defined.pos c.in-Defined.tparams c.in-Defined.underlying c.in-Defined.methods = search rules in
    (defined_below (length c.given_for.new.arena.nodes) given c.in-Defined.pos c.in-Defined.tparams c.in-Defined.underlying c.in-Defined.methods node c.in_ok-given.ensures.exact.1).1

pub put_in-requires-clause-args : goal.put_in-requires-clause-args
put_in-requires-clause-args g c = extends_below c.args.arena.now c.given_for.new.arena c.in_ok-given.ensures.kept.extends c.args.args.now c.requires.args

pub put_in-requires-clause-tparams : goal.put_in-requires-clause-tparams
put_in-requires-clause-tparams g c =
    let given = given_decl c.in_ok-given.given in
    let node : given ≡ Defined c.in-Defined.pos c.in-Defined.tparams c.in-Defined.underlying c.in-Defined.methods = search rules in
    subst (AllBelow (length c.given_for.new.arena.nodes)) (sym c.items.ensures)
    (defined_below (length c.given_for.new.arena.nodes) given c.in-Defined.pos c.in-Defined.tparams c.in-Defined.underlying c.in-Defined.methods node c.in_ok-given.ensures.exact.1).0

pub put_in-requires-clause-are : goal.put_in-requires-clause-are
put_in-requires-clause-are g c =
    let now = c.given_for.new.arena in
    let entries = g.E.Env.entries c.args.env.now c.args.arena.now.nodes in
    let given = given_decl c.in_ok-given.given in
    let node : given ≡ Defined c.in-Defined.pos c.in-Defined.tparams c.in-Defined.underlying c.in-Defined.methods = search rules in
    let does = c.in_ok-given.ensures in
    subst (λ ts. All IsTypeParameter (map (tree now.nodes) ts)) (sym c.items.ensures)
    (defined_parameters entries c.args.q.now now.nodes given c.in-Defined.tparams c.in-Defined.underlying does.exact.0 c.in-Defined.pos c.in-Defined.methods node
    (λ own stands. (g.met.E.Env c.lifetimes (search rules)).proper c.given_for.new.env now.nodes c.args.q.now own does.stands_after (ap (λ e. e c.args.q.now) does.kept.entries ∙ stands)))

pub returns-in-Defined-clause-exact : goal.returns-in-Defined-clause-exact
returns-in-Defined-clause-exact g c =
    let old = c.args.arena.now in
    let now = c.given_for.new.arena in
    let entries = g.E.Env.entries c.args.env.now old.nodes in
    let given = given_decl c.in_ok-given.given in
    let node : given ≡ Defined c.in-Defined.pos c.in-Defined.tparams c.in-Defined.underlying c.in-Defined.methods = search rules in
    let does = c.in_ok-given.ensures in
    let full = g.E.Env.full c.given_for.new.env in
    let same = side_is entries c.args.q.now now.nodes given c.in-Defined.tparams c.in-Defined.underlying does.exact.0 defined_side
    (λ head. ap (λ d. defined_side head (decl_of now.nodes d)) node) old now refl does.kept.extends c.args.args.now c.requires.args in
    let gives = subst (λ ts. GivesSide now c.put_in.new.arena full c.put_in.result (put_each (applied now.nodes c.args.q.now c.args.args.now) (map (tree now.nodes) ts) (map (tree now.nodes) c.args.args.now) (tree now.nodes c.in-Defined.underlying))) c.items.ensures (c.put_in.ensures.exact full) in
    side_gives (entries c.args.q.now) _ _ same old now c.put_in.new.arena does.kept.extends does.kept.adds full c.put_in.result gives

pub returns-in-Defined-clause-kept : goal.returns-in-Defined-clause-kept
returns-in-Defined-clause-kept g c =
    let old = c.args.arena.now in
    let now = c.given_for.new.arena in
    let entries = g.E.Env.entries c.args.env.now old.nodes in
    let given = given_decl c.in_ok-given.given in
    let node : given ≡ Defined c.in-Defined.pos c.in-Defined.tparams c.in-Defined.underlying c.in-Defined.methods = search rules in
    let does = c.in_ok-given.ensures in
    let env = c.given_for.new.env in
    let same = side_is entries c.args.q.now now.nodes given c.in-Defined.tparams c.in-Defined.underlying does.exact.0 defined_side
    (λ head. ap (λ d. defined_side head (decl_of now.nodes d)) node) old now refl does.kept.extends c.args.args.now c.requires.args in
    let adds = subst (λ ts. AddsSide now c.put_in.new.arena (put_each (applied now.nodes c.args.q.now c.args.args.now) (map (tree now.nodes) ts) (map (tree now.nodes) c.args.args.now) (tree now.nodes c.in-Defined.underlying))) c.items.ensures c.put_in.ensures.adds in
    let stay = extends_env (g.E.Env.stands env) (g.E.Env.entries env) ((g.met.E.Env c.lifetimes (search rules)).stays env) now c.put_in.new.arena c.put_in.ensures.extends does.stands_after in
    side_kept (entries c.args.q.now) _ _ same _ _ _ old now c.put_in.new.arena does.kept _ stay.1 refl refl refl c.put_in.ensures.extends adds

pub returns-clause-kept : goal.returns-clause-kept
returns-clause-kept g c = kept_more _ _ _ _ _ _ _ _ (λ q is. is) (λ type held. inl held) c.in_ok-given.ensures.kept
