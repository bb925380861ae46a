use Rattle.std.proofs.Common.{◌≡◌, ℕ, ◌<◌, List, [], ◌∷◌, ◌++◌, length, slice_get, arith, subst, ◌∙◌, ap, Some, refl, length-append}
use Rattle.std.proofs.lemmas.Option.{slice_get_read}
use Rattle.cycle_rules.specs.Search.{edges_of, IsSearch, HasRoom}
use Rattle.cycle_rules.specs.declared.components.Bound.{Bound}
use Rattle.cycle_rules.specs.declared.components.Mark.TheVariants.{Open, Done}
use Rattle.cycle_rules.proofs.PlaceLemmas.{at-last}
use Rattle.cycle_rules.proofs.FollowLemmas.{passed, joins}
use Rattle.cycle_rules.proofs.components.Search.follow.Goals as goal

room : (bounds : List Bound) (pending rest : List ℕ) (node : ℕ) → pending ≡ rest ++ node ∷ [] → ((k : ℕ) (b : Bound) → slice_get bounds k ≡ Some b → b.pending < length pending) → HasRoom bounds rest
room bounds pending rest node e h k b at = let under = h k b at in omega (arith, ap length e, simp length-append at (ap length e))

pub returns-in-Open-clause-search : goal.returns-in-Open-clause-search
returns-in-Open-clause-search c =
    let self = c.args.self.now in
    let popped = c.in_ok-node.ensures.items in
    let search = subst (λ (l : List ℕ). IsSearch (edges_of self) self.marks.items self.stack.items l self.bounds.items self.rank) popped c.requires.search in
    let inside = search.inside (length c.pop.new.self.items) c.in_ok-node.node (at-last c.pop.new.self.items c.in_ok-node.node) in
    let sized = search.sized in
    let mark : slice_get self.marks.items c.in_ok-node.node ≡ Some (Open c.in-Open.place) =
    slice_get_read self.marks.items (length self.marks.items) c.in_ok-node.node c.index.result.now refl (omega arith) c.index.ensures ∙ ap Some c.in-Open.is in
    let found = joins (edges_of self) self.marks.items self.stack.items c.pop.new.self.items self.bounds.items self.rank c.in_ok-node.node search
    (room self.bounds.items self.pending.items c.pop.new.self.items c.in_ok-node.node popped c.requires.room)
    c.in-Open.place c.merge.new.self.bounds.items mark c.merge.ensures.kept c.merge.ensures.merged c.merge.ensures.last in
    rw (c.merge.ensures.graph, c.merge.ensures.marks, c.merge.ensures.stack, c.merge.ensures.pending, c.merge.ensures.rank) found

pub returns-in-Done-clause-search : goal.returns-in-Done-clause-search
returns-in-Done-clause-search c =
    let self = c.args.self.now in
    let popped = c.in_ok-node.ensures.items in
    let search = subst (λ (l : List ℕ). IsSearch (edges_of self) self.marks.items self.stack.items l self.bounds.items self.rank) popped c.requires.search in
    let inside = search.inside (length c.pop.new.self.items) c.in_ok-node.node (at-last c.pop.new.self.items c.in_ok-node.node) in
    let sized = search.sized in
    let mark : slice_get self.marks.items c.in_ok-node.node ≡ Some (Done c.in-Done.field-0) =
    slice_get_read self.marks.items (length self.marks.items) c.in_ok-node.node c.index.result.now refl (omega arith) c.index.ensures ∙ ap Some c.in-Done.is in
    passed (edges_of self) self.marks.items self.stack.items c.pop.new.self.items self.bounds.items self.rank c.in_ok-node.node search
    (room self.bounds.items self.pending.items c.pop.new.self.items c.in_ok-node.node popped c.requires.room) c.in-Done.field-0 mark
