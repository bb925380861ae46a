use Rattle.std.proofs.Common.{length}
use Rattle.type_terms.specs.Denotation.{tree}
use Rattle.method_pairs.specs.Calls.{OpensPairs}
use Rattle.method_pairs.proofs.PairsLemmas.{pairs_give}
use Rattle.method_pairs.proofs.pairs.method_pairs.Goals as goal

pub returns-in-Ok-clause-exact : goal.returns-in-Ok-clause-exact
returns-in-Ok-clause-exact g c =
    let nodes = c.args.arena.now.nodes in
    let entries = g.E.Env.entries c.args.env.now nodes in
    let names = g.E.Env.names c.args.env.now in
    let after = c.open_type.new.arena in
    pairs_give entries names (tree nodes c.args.node) (OpensPairs entries names (tree nodes c.args.node)) c.args.arena.now after (g.E.Env.full c.open_type.new.env) c.in_ok-found.found c.in_ok-found.ensures.exact
    c.in-Ok.pairs (c.in-Ok.ensures.exact after.nodes) (c.in-Ok.ensures.within (length after.nodes))
