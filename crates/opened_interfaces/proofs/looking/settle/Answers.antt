use Rattle.environments.specs.KeptLaws.{kept_more}
use Rattle.type_terms.specs.Denotation.{tree}
use Rattle.opened_interfaces.specs.Ways.{way}
use Rattle.opened_interfaces.proofs.TermLemmas.{plain_goes}
use Rattle.opened_interfaces.proofs.looking.settle.Goals as goal

pub returns-clause-exact : goal.returns-clause-exact
returns-clause-exact g c =
    let nodes = c.args.arena.now.nodes in
    plain_goes (g.E.Env.entries c.args.env.now nodes) (g.E.Env.names c.args.env.now) (tree nodes c.args.ty) c.args.tested c.if-tested.false
    c.args.arena.now c.expand.new.arena (g.E.Env.full c.expand.new.env) c.expand.result c.expand.ensures.exact

pub returns-clause-kept : goal.returns-clause-kept
returns-clause-kept g c = kept_more _ _ _ _ _ _ _ _ (λ q held. way held) (λ t held. way held) c.expand.ensures.kept
