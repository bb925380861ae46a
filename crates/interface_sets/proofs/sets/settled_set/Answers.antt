use Rattle.std.proofs.Common.{◌≡◌, [], Err, Ok, List, sym, subst, length, map, refl}
use Rattle.std.specs.List.{AllByRecursion}
use Rattle.std.proofs.lemmas.Result.{err_from_is_err_and}
use Rattle.type_terms.specs.Denotation.{tree}
use Rattle.type_terms.specs.Extensions.{extends_tree}
use Rattle.type_terms.specs.TreeEquality.{same_tree}
use Rattle.environments.specs.Kept.{world, Kept}
use Rattle.interface_opener.specs.declared.found.Event.{Event as Noted}
use Rattle.interface_opener.specs.Numbered.{event_of, state}
use Rattle.interface_opening.specs.Terms.{terms_of}
use Rattle.opened_interfaces.specs.Meant.{known_meant, EventWithin}
use Rattle.replacement.specs.Calls.{Stops}
use Rattle.type_sets.specs.TypeSets.{same_term}
use Rattle.common_terms.proofs.FoundLemmas.{below_grown}
use Rattle.set_terms.specs.Needed.{AtEvents}
use Rattle.set_terms.specs.Shares.{listed}
use Rattle.set_terms.specs.Meant.{choice_meant, events_meant}
use Rattle.interface_sets.specs.Sets.{OpensSettled}
use Rattle.interface_sets.proofs.SetLemmas.{opening_stops, opening_kept, terms_stop, terms_kept, set_gives}
use Rattle.interface_sets.proofs.sets.settled_set.Goals as goal

pub returns-in_err-found-clause-exact : goal.returns-in_err-found-clause-exact
returns-in_err-found-clause-exact g c =
    let nodes = c.args.arena.now.nodes in
    let p = err_from_is_err_and c.from_residual.result c.from_residual.ensures.1 in
    rw (p.1, p.2) (opening_stops (g.E.Env.entries c.args.env.now nodes) (g.E.Env.names c.args.env.now) g.C.Covering.covered g.C.Covering.opens g.C.Covering.asks (tree nodes c.args.node) c.args.arena.now c.open_interfaces.new.arena (g.E.Env.full c.open_interfaces.new.env) c.in_err-found.field-0.0 c.in_err-found.ensures.exact)

pub returns-in_err-found-clause-kept : goal.returns-in_err-found-clause-kept
returns-in_err-found-clause-kept g c =
    let nodes = c.args.arena.now.nodes in
    opening_kept (g.E.Env.entries c.args.env.now nodes) (g.E.Env.names c.args.env.now) g.C.Covering.covered g.C.Covering.opens g.C.Covering.asks (tree nodes c.args.node) _ _ _ _ c.in_err-found.ensures.kept

pub set_terms-requires : goal.set_terms-requires
set_terms-requires g c =
    let found = c.in_ok-found.ensures in
    let between = c.open_interfaces.new.arena in
    let events = subst (λ (ev : List Noted). AllByRecursion (EventWithin (length between.nodes)) (map event_of ev)) (sym c.deref.ensures.value) found.exact.1.events in
    λ k. ((refl, tt), (found.stands_after, (events, below_grown c.args.arena.now between found.kept.extends c.args.node c.requires.there)))

pub returns-in_err-terms-clause-exact : goal.returns-in_err-terms-clause-exact
returns-in_err-terms-clause-exact g c =
    let start = c.args.arena.now in
    let entries = g.E.Env.entries c.args.env.now start.nodes in
    let names = g.E.Env.names c.args.env.now in
    let found = c.in_ok-found.ensures in
    let between = c.open_interfaces.new.arena in
    let later = g.E.Env.entries c.open_interfaces.new.env between.nodes in
    let more = g.E.Env.names c.open_interfaces.new.env in
    let top = tree between.nodes c.args.node in
    let full = g.E.Env.full c.set_terms.new.env in
    let fault = c.in_err-terms.field-0.0 in
    let stops = subst (λ (ev : List Noted). Stops (AtEvents same_term (g.C.Covering.covered later more) (g.C.Covering.opens later more) same_tree (events_meant between.nodes ev) []) between full fault
    (terms_of same_tree same_term (g.C.Covering.covered later more) (events_meant between.nodes ev) top ≡ Err fault)) c.deref.ensures.value c.in_err-terms.ensures.exact in
    let p = err_from_is_err_and c.from_residual-in_err-terms.result c.from_residual-in_err-terms.ensures.1 in
    rw (p.1, p.2) (terms_stop entries names g.C.Covering.covered g.C.Covering.opens g.C.Covering.asks (tree start.nodes c.args.node) (known_meant between.nodes (state c.in_ok-found.found)) found.exact.0 later more found.kept.entries found.kept.names
    start between c.set_terms.new.arena found.kept.extends found.kept.adds top (extends_tree start between found.kept.extends c.args.node c.requires.there) full fault stops)

pub returns-in_err-terms-clause-kept : goal.returns-in_err-terms-clause-kept
returns-in_err-terms-clause-kept g c =
    let start = c.args.arena.now in
    let entries = g.E.Env.entries c.args.env.now start.nodes in
    let names = g.E.Env.names c.args.env.now in
    let found = c.in_ok-found.ensures in
    let between = c.open_interfaces.new.arena in
    let after = c.set_terms.new.arena in
    let later = g.E.Env.entries c.open_interfaces.new.env between.nodes in
    let more = g.E.Env.names c.open_interfaces.new.env in
    let second = subst (λ (ev : List Noted). Kept (AtEvents same_term (g.C.Covering.covered later more) (g.C.Covering.asks later more) same_tree (events_meant between.nodes ev) [])
    (AtEvents same_term (g.C.Covering.covered later more) (g.C.Covering.opens later more) same_tree (events_meant between.nodes ev) [])
    (world later more (g.E.Env.packages c.open_interfaces.new.env) (g.E.Env.asked c.open_interfaces.new.env))
    (world (g.E.Env.entries c.set_terms.new.env after.nodes) (g.E.Env.names c.set_terms.new.env) (g.E.Env.packages c.set_terms.new.env) (g.E.Env.asked c.set_terms.new.env)) between after) c.deref.ensures.value c.in_err-terms.ensures.kept in
    terms_kept entries names g.C.Covering.covered g.C.Covering.opens g.C.Covering.asks (tree start.nodes c.args.node) (known_meant between.nodes (state c.in_ok-found.found)) found.exact.0 later more found.kept.entries found.kept.names
    _ _ _ start between after found.kept second

pub returns-in-Ok-clause-exact : goal.returns-in-Ok-clause-exact
returns-in-Ok-clause-exact g c =
    let start = c.args.arena.now in
    let entries = g.E.Env.entries c.args.env.now start.nodes in
    let names = g.E.Env.names c.args.env.now in
    let found = c.in_ok-found.ensures in
    let between = c.open_interfaces.new.arena in
    let after = c.set_terms.new.arena in
    let later = g.E.Env.entries c.open_interfaces.new.env between.nodes in
    let more = g.E.Env.names c.open_interfaces.new.env in
    let top = tree between.nodes c.args.node in
    let type = tree start.nodes c.args.node in
    let terms = listed c.in_ok-terms.terms in
    let told_is = subst (λ (ev : List Noted). terms_of same_tree same_term (g.C.Covering.covered later more) (events_meant between.nodes ev) top ≡ Ok (choice_meant between.nodes terms)) c.deref.ensures.value c.in_ok-terms.ensures.exact in
    set_gives entries names g.C.Covering.covered type later more found.kept.entries found.kept.names between after c.in_ok-terms.ensures.kept.extends c.in_ok-found.found found.exact.1
    (OpensSettled entries names g.C.Covering.covered g.C.Covering.opens type) start (g.E.Env.full c.set_terms.new.env) found.exact.0 top (extends_tree start between found.kept.extends c.args.node c.requires.there) terms told_is c.in_ok-terms.ensures.within
    c.in-Ok.set (c.in-Ok.ensures.methods after.nodes) c.in-Ok.ensures.flag c.in-Ok.ensures.terms (c.in-Ok.ensures.within (length after.nodes))

pub returns-in-Ok-clause-kept : goal.returns-in-Ok-clause-kept
returns-in-Ok-clause-kept g c =
    let start = c.args.arena.now in
    let entries = g.E.Env.entries c.args.env.now start.nodes in
    let names = g.E.Env.names c.args.env.now in
    let found = c.in_ok-found.ensures in
    let between = c.open_interfaces.new.arena in
    let after = c.set_terms.new.arena in
    let later = g.E.Env.entries c.open_interfaces.new.env between.nodes in
    let more = g.E.Env.names c.open_interfaces.new.env in
    let second = subst (λ (ev : List Noted). Kept (AtEvents same_term (g.C.Covering.covered later more) (g.C.Covering.asks later more) same_tree (events_meant between.nodes ev) [])
    (AtEvents same_term (g.C.Covering.covered later more) (g.C.Covering.opens later more) same_tree (events_meant between.nodes ev) [])
    (world later more (g.E.Env.packages c.open_interfaces.new.env) (g.E.Env.asked c.open_interfaces.new.env))
    (world (g.E.Env.entries c.set_terms.new.env after.nodes) (g.E.Env.names c.set_terms.new.env) (g.E.Env.packages c.set_terms.new.env) (g.E.Env.asked c.set_terms.new.env)) between after) c.deref.ensures.value c.in_ok-terms.ensures.kept in
    terms_kept entries names g.C.Covering.covered g.C.Covering.opens g.C.Covering.asks (tree start.nodes c.args.node) (known_meant between.nodes (state c.in_ok-found.found)) found.exact.0 later more found.kept.entries found.kept.names
    _ _ _ start between after found.kept second

pub returns-in-Err-clause-kept : goal.returns-in-Err-clause-kept
returns-in-Err-clause-kept g c =
    let start = c.args.arena.now in
    let entries = g.E.Env.entries c.args.env.now start.nodes in
    let names = g.E.Env.names c.args.env.now in
    let found = c.in_ok-found.ensures in
    let between = c.open_interfaces.new.arena in
    let after = c.set_terms.new.arena in
    let later = g.E.Env.entries c.open_interfaces.new.env between.nodes in
    let more = g.E.Env.names c.open_interfaces.new.env in
    let second = subst (λ (ev : List Noted). Kept (AtEvents same_term (g.C.Covering.covered later more) (g.C.Covering.asks later more) same_tree (events_meant between.nodes ev) [])
    (AtEvents same_term (g.C.Covering.covered later more) (g.C.Covering.opens later more) same_tree (events_meant between.nodes ev) [])
    (world later more (g.E.Env.packages c.open_interfaces.new.env) (g.E.Env.asked c.open_interfaces.new.env))
    (world (g.E.Env.entries c.set_terms.new.env after.nodes) (g.E.Env.names c.set_terms.new.env) (g.E.Env.packages c.set_terms.new.env) (g.E.Env.asked c.set_terms.new.env)) between after) c.deref.ensures.value c.in_ok-terms.ensures.kept in
    terms_kept entries names g.C.Covering.covered g.C.Covering.opens g.C.Covering.asks (tree start.nodes c.args.node) (known_meant between.nodes (state c.in_ok-found.found)) found.exact.0 later more found.kept.entries found.kept.names
    _ _ _ start between after found.kept second
