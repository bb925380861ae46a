use Rattle.std.proofs.Common.{sym, subst}
use Rattle.environments.specs.Kept.{world, Kept}
use Rattle.interface_opener.specs.declared.found.Event.{Event as Noted}
use Rattle.interface_opener.specs.Numbered.{event_of}
use Rattle.set_terms.specs.Needed.{AtEvent, changed}
use Rattle.set_terms.specs.Known.{known_of}
use Rattle.set_terms.specs.Shares.{wholes_of}
use Rattle.set_terms.specs.Meant.{holder_of, sum_at, term_kept, GivesSum}
use Rattle.set_terms.proofs.KnownLemmas.{takes_gives}
use Rattle.type_sets.specs.TypeSets.{same_term}
use Rattle.type_terms.specs.TreeEquality.{same_tree}
use Rattle.set_terms.proofs.folding.happen.Goals as goal

pub returns-in-Interface-clause-exact : goal.returns-in-Interface-clause-exact
returns-in-Interface-clause-exact g c =
    let arena = c.args.arena.now in
    let entries = g.E.Env.entries c.args.env.now arena.nodes in
    let names = g.E.Env.names c.args.env.now in
    let cov = g.C.Covering.covered entries names in
    let opens = g.C.Covering.opens entries names in
    let old = known_of c.args.shares.now in
    let new = known_of c.add_interface.new.shares in
    subst (λ (ev : Noted). GivesSum (AtEvent same_term cov opens (sum_at arena.nodes old) (event_of ev)) arena (g.E.Env.full c.args.env.now) c.add_interface.result (holder_of ev) old new
    (changed same_tree same_term cov (sum_at arena.nodes old) (term_kept arena.nodes) (event_of ev))) (sym c.in-Interface.is)
    (takes_gives cov _ arena (g.E.Env.full c.args.env.now) c.add_interface.result c.in-Interface.holder (wholes_of c.args.shares.now.wholes.entries c.in-Interface.of) old new c.add_interface.ensures)

pub returns-in-Ends-clause-exact : goal.returns-in-Ends-clause-exact
returns-in-Ends-clause-exact g c =
    let arena = c.args.arena.now in
    let entries = g.E.Env.entries c.args.env.now arena.nodes in
    let names = g.E.Env.names c.args.env.now in
    let cov = g.C.Covering.covered entries names in
    let opens = g.C.Covering.opens entries names in
    let old = known_of c.args.shares.now in
    let new = known_of c.end_element.new.shares in
    subst (λ (ev : Noted). GivesSum (AtEvent same_term cov opens (sum_at arena.nodes old) (event_of ev)) arena (g.E.Env.full c.end_element.new.env) c.end_element.result (holder_of ev) old new
    (changed same_tree same_term cov (sum_at arena.nodes old) (term_kept arena.nodes) (event_of ev))) (sym c.in-Ends.is) c.end_element.ensures.exact

pub returns-in-Ends-clause-kept : goal.returns-in-Ends-clause-kept
returns-in-Ends-clause-kept g c =
    let arena = c.args.arena.now in
    let entries = g.E.Env.entries c.args.env.now arena.nodes in
    let names = g.E.Env.names c.args.env.now in
    let cov = g.C.Covering.covered entries names in
    let opens = g.C.Covering.opens entries names in
    let asks = g.C.Covering.asks entries names in
    let old = known_of c.args.shares.now in
    let after = c.end_element.new.arena in
    subst (λ (ev : Noted). Kept (AtEvent same_term cov asks (sum_at arena.nodes old) (event_of ev)) (AtEvent same_term cov opens (sum_at arena.nodes old) (event_of ev))
    (world entries names (g.E.Env.packages c.args.env.now) (g.E.Env.asked c.args.env.now))
    (world (g.E.Env.entries c.end_element.new.env after.nodes) (g.E.Env.names c.end_element.new.env) (g.E.Env.packages c.end_element.new.env) (g.E.Env.asked c.end_element.new.env)) arena after) (sym c.in-Ends.is) c.end_element.ensures.kept
