-- What a search keeps as its last component is done.
use Rattle.std.proofs.Common.{◌≡◌, ℕ, ◌+◌, ◌<◌, ◌≤◌, ◌⊎◌, List, [], ◌∷◌, ◌++◌, length, take, slice_get, Some, ap, ◌∙◌, subst, inl, inr, arith, count_by, length-append, length-take}
use Rattle.std.proofs.lemmas.Bool.{cases_lt}
use Rattle.cycle_rules.specs.declared.components.Mark.{Mark}
use Rattle.cycle_rules.specs.declared.components.Mark.TheVariants.{New, Open, Done}
use Rattle.cycle_rules.specs.declared.components.Bound.{Bound}
use Rattle.cycle_rules.specs.Paths.{Arrow}
use Rattle.cycle_rules.specs.Search.{Reaches, is_new, Belongs, Followed, done, within, waits, IsSearch}
use Rattle.cycle_rules.proofs.PlaceLemmas.{at_within, at_some, at-left, at-last, at-push_cases, at-take, at-taken}
use Rattle.cycle_rules.proofs.ReachesLemmas.{reaches_further}

module _ (graph : List (List ℕ)) (marks marks' : List Mark) (stack pending : List ℕ) (bounds : List Bound) (bound : Bound) (rank : ℕ)
    (search : IsSearch graph marks stack pending (bounds ++ bound ∷ []) rank) (empty : length pending ≤ bound.pending)
    (closed : (i v : ℕ) → bound.stack ≤ i → slice_get stack i ≡ Some v → slice_get marks' v ≡ Some (Done rank))
    (others : (v : ℕ) → ((i : ℕ) → bound.stack ≤ i → slice_get stack i ≡ Some v → ⊥) → slice_get marks' v ≡ slice_get marks v)
    (sized : length marks' ≡ length marks) (fewer : count_by is_new marks' ≡ count_by is_new marks) where
  at_end : slice_get (bounds ++ bound ∷ []) (length bounds) ≡ Some bound
  at_end = at-last bounds bound

  was : (k : ℕ) (b : Bound) → slice_get bounds k ≡ Some b → slice_get (bounds ++ bound ∷ []) k ≡ Some b
  was k b at = at-left bounds (bound ∷ []) k b at

  -- a bound that is left begins before the component that is done
  earlier : (k : ℕ) (b : Bound) → slice_get bounds k ≡ Some b → (b.stack < bound.stack) × (b.pending ≤ bound.pending)
  earlier k b at = search.rising k (length bounds) b bound (was k b at) at_end (at_within bounds k b at)

  -- a node that isn't on the stack from the bound on keeps its mark
  same_mark : (v : ℕ) (m : Mark) → slice_get marks v ≡ Some m → ((i : ℕ) → m ≡ Open i → i < bound.stack) → slice_get marks' v ≡ Some m
  same_mark v m at low = others v (λ i from there. let placed = search.placed i v there in let below = low i cc in absurd (omega arith)) ∙ at

  -- a mark after the step was there before, or is the new component's
  after : (v : ℕ) (m : Mark) → slice_get marks' v ≡ Some m → (slice_get marks v ≡ Some m) ⊎ ((m ≡ Done rank) × (i : ℕ) × (bound.stack ≤ i) × (slice_get stack i ≡ Some v))
  after v m at =
      let inside : v < length marks = let w = at_within marks' v m at in omega arith in
      let one = at_some marks v inside in
      by_mark v m at one.0 one.1
    where
      by_mark : (v : ℕ) (m : Mark) → slice_get marks' v ≡ Some m → (old : Mark) → slice_get marks v ≡ Some old → (slice_get marks v ≡ Some m) ⊎ ((m ≡ Done rank) × (i : ℕ) × (bound.stack ≤ i) × (slice_get stack i ≡ Some v))
      by_mark v m at New old = let same = same_mark v New old (λ i e. absurd cc) in inl cc
      by_mark v m at (Done r) old = let same = same_mark v (Done r) old (λ i e. absurd cc) in inl cc
      by_mark v m at (Open i) old = elim (cases_lt i bound.stack) [
        | inl below ↦ let same = same_mark v (Open i) old (λ j e. let one : i ≡ j = cc in omega arith) in inl cc
        | inr above ↦ let there = search.opened v i old in let new = closed i v above there in inr (cc, i, above, there)
      ]

  -- the first node of the component
  root : (v : ℕ) × (slice_get stack bound.stack ≡ Some v)
  root = at_some stack bound.stack (search.begun (length bounds) bound at_end)

  -- the nodes of the component lead to its first and back
  back : (i v : ℕ) → bound.stack ≤ i → slice_get stack i ≡ Some v → Reaches (Arrow graph) v root.0
  back i v from at =
      let home = search.belongs i v at in
      let last = home.last (length bounds) bound at_end from in
      let low = at_within (bounds ++ bound ∷ []) home.index home.bound home.at in
      let index : home.index ≡ length bounds = omega (arith, length-append bounds (bound ∷ [])) in
      let there : slice_get (bounds ++ bound ∷ []) (length bounds) ≡ Some home.bound = subst (λ (n : ℕ). slice_get (bounds ++ bound ∷ []) n ≡ Some home.bound) index home.at in
      let end = at_end in
      let same : home.bound ≡ bound = cc in
      let start : slice_get stack bound.stack ≡ Some home.root = subst (λ (b : Bound). slice_get stack b.stack ≡ Some home.root) same home.start in
      let first = root.1 in
      let one : home.root ≡ root.0 = cc in
      subst (λ (n : ℕ). Reaches (Arrow graph) v n) one home.back

  forth : (i v : ℕ) → bound.stack ≤ i → slice_get stack i ≡ Some v → Reaches (Arrow graph) root.0 v
  forth i v from at = search.leads (length bounds) root.0 i v bound at_end root.1 from at

  -- the edges of the component's nodes lead to nodes that are done
  edge_done : (i v t : ℕ) → bound.stack ≤ i → slice_get stack i ≡ Some v → Arrow graph v t → (s : ℕ) × (slice_get marks' t ≡ Some (Done s)) × (s ≤ rank)
  edge_done i v t from at arrow = by_end t (search.followed (length bounds) i v t bound at_end from at arrow)
    where
      by_end : (t : ℕ) → Followed marks stack pending bound t → (s : ℕ) × (slice_get marks' t ≡ Some (Done s)) × (s ≤ rank)
      by_end t (done s mark) = let low = search.ranked t s mark in (s, same_mark t (Done s) mark (λ i e. absurd cc), omega arith)
      by_end t (within j from there) = (rank, closed j t from there, omega arith)
      by_end t (waits x from there) = let w = at_within pending x t there in absurd (omega arith)

  falls : (v t r : ℕ) → slice_get marks' v ≡ Some (Done r) → Arrow graph v t → (s : ℕ) × (slice_get marks' t ≡ Some (Done s)) × (s ≤ r)
  falls v t r at arrow = elim (after v (Done r) at) [
    | inl old ↦ let one = search.falls v t r old arrow in (one.0, same_mark t (Done one.0) one.1 (λ i e. absurd cc), one.2)
    | inr new ↦ let one = edge_done new.1 v t new.2 new.3 arrow in let r_is : r ≡ rank = let e = new.0 in cc in (one.0, one.1, let low = one.2 in omega arith)
  ]

  alike : (v w r : ℕ) → slice_get marks' v ≡ Some (Done r) → slice_get marks' w ≡ Some (Done r) → Reaches (Arrow graph) v w
  alike v w r at_v at_w = elim (after v (Done r) at_v) [
    | inl old_v ↦ elim (after w (Done r) at_w) [
      | inl old_w ↦ search.alike v w r old_v old_w
      | inr new_w ↦ let low = search.ranked v r old_v in let r_is : r ≡ rank = let e = new_w.0 in cc in absurd (omega arith)
    ]
    | inr new_v ↦ elim (after w (Done r) at_w) [
      | inl old_w ↦ let low = search.ranked w r old_w in let r_is : r ≡ rank = let e = new_v.0 in cc in absurd (omega arith)
      | inr new_w ↦ reaches_further (back new_v.1 v new_v.2 new_v.3) (forth new_w.1 w new_w.2 new_w.3)
    ]
  ]

  still : (k t : ℕ) (b : Bound) → slice_get bounds k ≡ Some b → Followed marks stack pending b t → Followed marks' (take bound.stack stack) pending b t
  still k t b at_k (done s mark) = done s (same_mark t (Done s) mark (λ i e. absurd cc))
  still k t b at_k (within j from there) = elim (cases_lt j bound.stack) [
    | inl low ↦ within j from (at-taken bound.stack stack j t low there)
    | inr high ↦ done rank (closed j t high there)
  ]
  still k t b at_k (waits x from there) = waits x from there

  belongs : (i v : ℕ) → slice_get (take bound.stack stack) i ≡ Some v → Belongs graph (take bound.stack stack) bounds i v
  belongs i v at =
      let there = at-take bound.stack stack i v at in
      let home = search.belongs i v there.1 in
      elim (at-push_cases bounds bound home.index home.bound home.at) [
        | inl old ↦ record {
          index = home.index;
          bound = home.bound;
          root = home.root;
          at = old;
          below = home.below;
          last = λ k b there' under. home.last k b (was k b there') under;
          start = let low = earlier home.index home.bound old in at-taken bound.stack stack home.bound.stack home.root low.0 home.start;
          back = home.back;
        }
        | inr last ↦
            let low = home.below in
            let e_stack : bound.stack ≡ home.bound.stack = ap (λ (z : Bound). z.stack) last.1 in
            let under = there.0 in
            absurd (omega arith)
      ]

  pub finished : IsSearch graph marks' (take bound.stack stack) pending bounds (rank + 1)
  finished = record {
    sized = sized ∙ search.sized;
    placed = λ i v at. let there = at-take bound.stack stack i v at in same_mark v (Open i) (search.placed i v there.1) (λ j e. let one : i ≡ j = cc in let low = there.0 in omega arith);
    opened = λ v i at. elim (after v (Open i) at) [
      | inl old ↦
          let there = search.opened v i old in
          elim (cases_lt i bound.stack) [
            | inl low ↦ at-taken bound.stack stack i v low there
            | inr high ↦ let new = closed i v high there in absurd cc
          ]
      | inr new ↦ let e = new.0 in absurd cc
    ];
    fresh = λ v at. elim (after v New at) [ inl old ↦ search.fresh v old | inr new ↦ let e = new.0 in absurd cc ];
    inside = search.inside;
    rising = λ k l a b at_k at_l below. search.rising k l a b (was k a at_k) (was l b at_l) below;
    begun = λ k b at.
        let low = earlier k b at in
        let fits = search.begun (length bounds) bound at_end in
        omega (arith, length-take bound.stack stack);
    belongs = belongs;
    leads = λ k root' j v b at start below there.
        let s = at-take bound.stack stack b.stack root' start in
        let t = at-take bound.stack stack j v there in
        search.leads k root' j v b (was k b at) s.1 below t.1;
    awaits = λ k root' x v b at start below there.
        let s = at-take bound.stack stack b.stack root' start in
        search.awaits k root' x v b (was k b at) s.1 below there;
    followed = λ k i v t b at below there arrow.
        let s = at-take bound.stack stack i v there in
        still k t b at (search.followed k i v t b (was k b at) below s.1 arrow);
    falls = falls;
    alike = alike;
    ranked = λ v r at. elim (after v (Done r) at) [
      | inl old ↦ let low = search.ranked v r old in omega arith
      | inr new ↦ let r_is : r ≡ rank = let e = new.0 in cc in omega arith
    ];
    counted = let old = search.counted in omega (arith, length-append bounds (bound ∷ []));
  }
