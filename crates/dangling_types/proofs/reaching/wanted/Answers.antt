use Rattle.std.proofs.Common.{◌<◌, length, sym, subst}
use Rattle.dangling_types.specs.Searching.{IsSearch, Joins, last_of}
use Rattle.dangling_types.proofs.SearchLemmas.{search_begins, search_goes, search_falls, search_there}
use Rattle.dangling_types.proofs.reaching.wanted.Goals as goal

pub loop-id-init : goal.loop-id-init
loop-id-init c =
    let nodes = c.args.arena.now.nodes in
    let known = c.args.known.now.entries in
    subst (λ met. IsSearch nodes known c.args.start met c.wait.new.waiting.keys) (sym c.new-met.ensures.items)
    (search_begins nodes known c.args.start c.new-waiting.result.keys c.wait.new.waiting.keys c.new-waiting.ensures.empty c.requires c.in_ok-wait.ensures)

pub loop-id-preserved : goal.loop-id-preserved
loop-id-preserved c =
    let nodes = c.args.arena.now.nodes in
    let known = c.args.known.now.entries in
    let rest = c.greatest.new.waiting.keys in
    let after = c.wait_for.new.waiting.keys in
    subst (λ met. IsSearch nodes known c.args.start met after) (sym c.in_ok-push.ensures.items)
    (search_goes nodes known c.args.start c.loop-id.met.items c.loop-id.waiting.keys rest c.in-Some.id c.loop-id.invariant c.in-Some.ensures.taken c.in_ok-inner.inner.items after c.in-Some.ensures.below c.in_ok-inner.ensures
    (subst (Joins known rest after) c.deref.ensures.value c.in_ok-wait_for.ensures))

pub loop-id-smaller : goal.loop-id-smaller
loop-id-smaller c =
    let nodes = c.args.arena.now.nodes in
    let known = c.args.known.now.entries in
    let met = c.loop-id.met.items in
    subst (λ now. last_of (length nodes) now < last_of (length nodes) met) (sym c.in_ok-push.ensures.items)
    (search_falls nodes known c.args.start met c.loop-id.waiting.keys c.greatest.new.waiting.keys c.in-Some.id c.loop-id.invariant c.in-Some.ensures.taken)

pub returns : goal.returns
returns c = subst (λ waiting. IsSearch c.args.arena.now.nodes c.args.known.now.entries c.args.start c.loop-id.met.items waiting) c.in_default.ensures.none c.loop-id.invariant

pub children_of-requires : goal.children_of-requires
children_of-requires c = search_there c.args.arena.now.nodes c.args.known.now.entries c.args.start c.loop-id.met.items c.loop-id.waiting.keys c.greatest.new.waiting.keys c.in-Some.id c.loop-id.invariant c.in-Some.ensures.taken
