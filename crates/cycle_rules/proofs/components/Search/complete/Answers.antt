use Rattle.std.proofs.Common.{◌≡◌, ℕ, ◌-◌, List, [], ◌∷◌, ◌++◌, length, take, slice_get, arith, subst, sym, ◌∙◌, ap, Some}
use Rattle.std.specs.Vec.{vec_len}
use Rattle.cycle_rules.specs.declared.components.Bound.{Bound}
use Rattle.cycle_rules.specs.Search.{edges_of, IsSearch}
use Rattle.cycle_rules.proofs.PlaceLemmas.{front_last, at_within}
use Rattle.cycle_rules.proofs.CompleteLemmas.{finished}
use Rattle.cycle_rules.proofs.components.Search.complete.Goals as goal

fronts : (bounds rest : List Bound) (n : ℕ) (bound : Bound) → n ≡ length bounds → slice_get bounds (length bounds - 1) ≡ Some bound → rest ≡ take (n - 1) bounds → bounds ≡ rest ++ bound ∷ []
fronts bounds rest n bound e at kept =
    let w = at_within bounds (length bounds - 1) bound at in
    let same : n - 1 ≡ length bounds - 1 = omega arith in
    front_last bounds (length bounds - 1) bound (omega arith) at ∙ ap (λ (l : List Bound). l ++ bound ∷ []) (sym (kept ∙ ap (λ (k : ℕ). take k bounds) same))

pub returns-clause-search : goal.returns-clause-search
returns-clause-search c =
    let self = c.args.self.now in
    let bound = c.in-Some.bound in
    let at : slice_get self.bounds.items (length self.bounds.items - 1) ≡ Some bound =
    subst (λ (l : List Bound). slice_get l (length l - 1) ≡ Some bound) c.deref.ensures.value (sym (c.in-Some.ensures ∙ c.last.ensures.value)) in
    let rest : c.pop.new.self.items ≡ take (vec_len self.bounds - 1) self.bounds.items = rw (← c.close.ensures.bounds) c.pop.ensures.rest in
    let whole = fronts self.bounds.items c.pop.new.self.items (vec_len self.bounds) bound self.bounds.ok.0 at rest in
    let search = subst (λ (l : List Bound). IsSearch (edges_of self) self.marks.items self.stack.items self.pending.items l self.rank) whole c.requires.search in
    let found = finished (edges_of self) self.marks.items c.close.new.self.marks.items self.stack.items self.pending.items c.pop.new.self.items bound self.rank
    search (omega (arith, c.len.ensures, self.pending.ok.0)) c.close.ensures.closed c.close.ensures.others c.close.ensures.sized c.close.ensures.fresh in
    rw (c.close.ensures.graph, c.close.ensures.stack, c.close.ensures.pending, c.close.ensures.rank) found
