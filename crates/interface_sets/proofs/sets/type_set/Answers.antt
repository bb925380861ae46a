use Rattle.std.proofs.Common.{rules, subst}
use Rattle.type_terms.specs.Denotation.{tree}
use Rattle.term_tests.proofs.StepLemmas.{is_known}
use Rattle.interface_sets.specs.Sets.{OpensSet}
use Rattle.interface_sets.specs.Calls.{GivesSet}
use Rattle.interface_sets.proofs.DefinedLemmas.{same_type_set}
use Rattle.interface_sets.proofs.sets.type_set.Goals as goal

pub returns-clause-defined : goal.returns-clause-defined
returns-clause-defined g c covering =
    let nodes = c.args.arena.now.nodes in
    let entries = g.E.Env.entries c.args.env.now nodes in
    let names = g.E.Env.names c.args.env.now in
    let type = tree nodes c.args.node in
    let known = is_known entries names ((g.met.E.Env c.lifetimes (search rules)).finite c.args.env.now nodes) in
    subst (λ want. GivesSet (OpensSet entries names g.C.Covering.covered g.C.Covering.opens type) c.args.arena.now c.set_as_told.new.arena (g.E.Env.full c.set_as_told.new.env) c.set_as_told.result want)
    (same_type_set entries names known g.C.Covering.covered covering type) c.set_as_told.ensures.exact
