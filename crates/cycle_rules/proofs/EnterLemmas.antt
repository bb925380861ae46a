-- What a search keeps as it opens a new node.
use Rattle.std.proofs.Common.{◌≡◌, ◌≢◌, ℕ, ◌+◌, ◌<◌, ◌≤◌, ◌⊎◌, List, [], ◌∷◌, ◌++◌, length, set, slice_get, Some, sym, ap, ◌∙◌, subst, inl, inr, arith, count_by, cond, length-append, length-set}
use Rattle.std.proofs.lemmas.List.Sums.{sum_by-set}
use Rattle.std.proofs.lemmas.Option.{get_or_from_slice_get}
use Rattle.std.proofs.lemmas.Bool.{cases_eq}
use Rattle.cycle_rules.specs.declared.components.Mark.{Mark}
use Rattle.cycle_rules.specs.declared.components.Mark.TheVariants.{New, Open, Done}
use Rattle.cycle_rules.specs.declared.components.Bound.{Bound}
use Rattle.cycle_rules.specs.Paths.{Arrow, IsGraph}
use Rattle.cycle_rules.specs.Search.{Reaches, here, is_new, Belongs, Followed, done, within, waits, IsSearch, HasRoom}
use Rattle.cycle_rules.proofs.PlaceLemmas.{at_within, at-left, at-right, at-append_cases, at-last, at-push_cases, at-set_same, at-set_other}
use Rattle.cycle_rules.proofs.ReachesLemmas.{reaches_further, one_edge}

pub count-opened : (marks : List Mark) (node place : ℕ) → slice_get marks node ≡ Some New → count_by is_new (set marks node (Open place)) + 1 ≡ count_by is_new marks
count-opened marks node place at =
    let step = sum_by-set (λ m. cond (is_new m) 1 0) marks node (Open place) New (at_within marks node New at) in
    let was = ap {B = ℕ} (λ (m : Mark). cond (is_new m) 1 0) (get_or_from_slice_get marks node New New at) in
    omega (arith, step, was)

module _ (graph : List (List ℕ)) (marks : List Mark) (stack pending targets : List ℕ) (bounds : List Bound) (rank node : ℕ)
    (graphs : IsGraph graph) (from : slice_get graph node ≡ Some targets) (search : IsSearch graph marks stack (pending ++ node ∷ []) bounds rank)
    (room : HasRoom bounds pending) (new : slice_get marks node ≡ Some New) where
  first : Bound
  first = record { stack = length stack; pending = length pending }

  -- a mark after the step is one from before, or the node's
  after : (v : ℕ) (m : Mark) → slice_get (set marks node (Open (length stack))) v ≡ Some m → ((v ≢ node) × (slice_get marks v ≡ Some m)) ⊎ ((v ≡ node) × (m ≡ Open (length stack)))
  after v m at = elim (cases_eq v node) [
    | inl same ↦ let own = at-set_same marks node (Open (length stack)) (at_within marks node New new) in
        let at_node : slice_get (set marks node (Open (length stack))) node ≡ Some m = subst (λ (n : ℕ). slice_get (set marks node (Open (length stack))) n ≡ Some m) same at in
        inr (same, cc)
    | inr other ↦ inl (other, sym (at-set_other marks node v (Open (length stack)) other) ∙ at)
  ]

  before : (v : ℕ) (m : Mark) → m ≢ New → slice_get marks v ≡ Some m → slice_get (set marks node (Open (length stack))) v ≡ Some m
  before v m old at = at-set_other marks node v (Open (length stack)) (λ same. old (let own : slice_get marks node ≡ Some m = subst (λ (n : ℕ). slice_get marks n ≡ Some m) same at in cc)) ∙ at

  placed : (i v : ℕ) → slice_get (stack ++ node ∷ []) i ≡ Some v → slice_get (set marks node (Open (length stack))) v ≡ Some (Open i)
  placed i v at = elim (at-push_cases stack node i v at) [
    | inl old ↦ before v (Open i) (λ e. cc) (search.placed i v old)
    | inr last ↦
        let own = at-set_same marks node (Open (length stack)) (at_within marks node New new) in
        let i_is = last.0 in
        let v_is = last.1 in
        cc
  ]

  opened : (v i : ℕ) → slice_get (set marks node (Open (length stack))) v ≡ Some (Open i) → slice_get (stack ++ node ∷ []) i ≡ Some v
  opened v i at = elim (after v (Open i) at) [
    | inl old ↦ at-left stack (node ∷ []) i v (search.opened v i old.1)
    | inr own ↦
        let last = at-last stack node in
        let v_is = own.0 in
        let place = own.1 in
        cc
  ]

  fresh : (v : ℕ) → slice_get (set marks node (Open (length stack))) v ≡ Some New → (x : ℕ) × (slice_get (pending ++ targets) x ≡ Some v)
  fresh v at = elim (after v New at) [
    | inl old ↦
        let w = search.fresh v old.1 in
        elim (at-push_cases pending node w.0 v w.1) [
          | inl there ↦ (w.0, at-left pending targets w.0 v there)
          | inr last ↦ absurd (old.0 (sym last.1))
        ]
    | inr own ↦ let place = own.1 in absurd cc
  ]

  inside : (x v : ℕ) → slice_get (pending ++ targets) x ≡ Some v → v < length graph
  inside x v at = elim (at-append_cases pending targets x v at) [
    | inl old ↦ search.inside x v (at-left pending (node ∷ []) x v old)
    | inr more ↦ graphs node v (record { targets = targets; place = more.0; from = from; to = more.2 })
  ]

  rising : (k l : ℕ) (a b : Bound) → slice_get (bounds ++ first ∷ []) k ≡ Some a → slice_get (bounds ++ first ∷ []) l ≡ Some b → k < l → (a.stack < b.stack) × (a.pending ≤ b.pending)
  unfolding first
  rising k l a b at_k at_l below = elim (at-push_cases bounds first l b at_l) [
    | inl old ↦ elim (at-push_cases bounds first k a at_k) [
      | inl old_k ↦ search.rising k l a b old_k old below
      | inr last ↦ let w = at_within bounds l b old in absurd (omega arith)
    ]
    | inr last ↦ elim (at-push_cases bounds first k a at_k) [
      | inl old_k ↦
          let s = search.begun k a old_k in
          let p = room k a old_k in
          let e = last.1 in
          let e_stack : length stack ≡ b.stack = ap (λ (z : Bound). z.stack) e in
          let e_pending : length pending ≡ b.pending = ap (λ (z : Bound). z.pending) e in
          (omega arith, omega arith)
      | inr both ↦ absurd (omega arith)
    ]
  ]

  begun : (k : ℕ) (b : Bound) → slice_get (bounds ++ first ∷ []) k ≡ Some b → b.stack < length (stack ++ node ∷ [])
  unfolding first
  begun k b at = elim (at-push_cases bounds first k b at) [
    | inl old ↦ let s = search.begun k b old in omega (arith, length-append stack (node ∷ []))
    | inr last ↦ let e_stack : length stack ≡ b.stack = ap (λ (z : Bound). z.stack) last.1 in omega (arith, length-append stack (node ∷ []))
  ]

  belongs : (i v : ℕ) → slice_get (stack ++ node ∷ []) i ≡ Some v → Belongs graph (stack ++ node ∷ []) (bounds ++ first ∷ []) i v
  unfolding first
  belongs i v at = elim (at-push_cases stack node i v at) [
    | inl old ↦
        let was = search.belongs i v old in
        let w = at_within stack i v old in
        record {
          index = was.index;
          bound = was.bound;
          root = was.root;
          at = at-left bounds (first ∷ []) was.index was.bound was.at;
          below = was.below;
          last = λ k b there below. elim (at-push_cases bounds first k b there) [
            | inl here' ↦ was.last k b here' below
            | inr end ↦ let e_stack : length stack ≡ b.stack = ap (λ (z : Bound). z.stack) end.1 in absurd (omega arith)
          ];
          start = at-left stack (node ∷ []) was.bound.stack was.root was.start;
          back = was.back;
        }
    | inr last ↦ record {
      index = length bounds;
      bound = first;
      root = node;
      at = at-last bounds first;
      below = let i_is = last.0 in omega arith;
      last = λ k b there below. let w = at_within (bounds ++ first ∷ []) k b there in omega (arith, length-append bounds (first ∷ []));
      start = at-last stack node;
      back = subst (λ (n : ℕ). Reaches (Arrow graph) n node) last.1 here;
    }
  ]

  -- where a component that was there leads
  to_node : (k root : ℕ) (b : Bound) → slice_get bounds k ≡ Some b → slice_get stack b.stack ≡ Some root → Reaches (Arrow graph) root node
  to_node k root b at start = search.awaits k root (length pending) node b at start (room k b at) (at-last pending node)

  -- the first node of a component that was there stays the same
  old_start : (k root : ℕ) (b : Bound) → slice_get bounds k ≡ Some b → slice_get (stack ++ node ∷ []) b.stack ≡ Some root → slice_get stack b.stack ≡ Some root
  old_start k root b at start = elim (at-push_cases stack node b.stack root start) [
    | inl old ↦ old
    | inr last ↦ let s = search.begun k b at in absurd (omega arith)
  ]

  leads : (k root j v : ℕ) (b : Bound) → slice_get (bounds ++ first ∷ []) k ≡ Some b → slice_get (stack ++ node ∷ []) b.stack ≡ Some root → b.stack ≤ j → slice_get (stack ++ node ∷ []) j ≡ Some v → Reaches (Arrow graph) root v
  unfolding first
  leads k root j v b at start below there = elim (at-push_cases bounds first k b at) [
    | inl old ↦
        let begins = old_start k root b old start in
        elim (at-push_cases stack node j v there) [
          | inl was ↦ search.leads k root j v b old begins below was
          | inr last ↦ subst (λ (n : ℕ). Reaches (Arrow graph) root n) last.1 (to_node k root b old begins)
        ]
    | inr end ↦
        let e_stack : length stack ≡ b.stack = ap (λ (z : Bound). z.stack) end.1 in
        let w = at_within (stack ++ node ∷ []) j v there in
        let j_is : j ≡ b.stack = omega (arith, length-append stack (node ∷ [])) in
        let same : slice_get (stack ++ node ∷ []) b.stack ≡ Some v = subst (λ (n : ℕ). slice_get (stack ++ node ∷ []) n ≡ Some v) j_is there in
        let equal : root ≡ v = cc in
        subst (λ (n : ℕ). Reaches (Arrow graph) root n) equal here
  ]

  awaits : (k root x v : ℕ) (b : Bound) → slice_get (bounds ++ first ∷ []) k ≡ Some b → slice_get (stack ++ node ∷ []) b.stack ≡ Some root → b.pending ≤ x → slice_get (pending ++ targets) x ≡ Some v → Reaches (Arrow graph) root v
  unfolding first
  awaits k root x v b at start below there = elim (at-push_cases bounds first k b at) [
    | inl old ↦
        let begins = old_start k root b old start in
        elim (at-append_cases pending targets x v there) [
          | inl was ↦ search.awaits k root x v b old begins below (at-left pending (node ∷ []) x v was)
          | inr more ↦ reaches_further (to_node k root b old begins) (one_edge (record { targets = targets; place = more.0; from = from; to = more.2 }))
        ]
    | inr end ↦
        let e_stack : length stack ≡ b.stack = ap (λ (z : Bound). z.stack) end.1 in
        let e_pending : length pending ≡ b.pending = ap (λ (z : Bound). z.pending) end.1 in
        let begins : slice_get (stack ++ node ∷ []) (length stack) ≡ Some root = subst (λ (n : ℕ). slice_get (stack ++ node ∷ []) n ≡ Some root) (sym e_stack) start in
        let last = at-last stack node in
        let equal : node ≡ root = cc in
        elim (at-append_cases pending targets x v there) [
          | inl was ↦ let w = at_within pending x v was in absurd (omega arith)
          | inr more ↦ subst (λ (n : ℕ). Reaches (Arrow graph) n v) equal (one_edge (record { targets = targets; place = more.0; from = from; to = more.2 }))
        ]
  ]

  still : (t : ℕ) (b : Bound) → b.stack ≤ length stack → Followed marks stack (pending ++ node ∷ []) b t → Followed (set marks node (Open (length stack))) (stack ++ node ∷ []) (pending ++ targets) b t
  still t b below (done r at) = done r (before t (Done r) (λ e. cc) at)
  still t b below (within i from' at) = within i from' (at-left stack (node ∷ []) i t at)
  still t b below (waits x from' at) = elim (at-push_cases pending node x t at) [
    | inl old ↦ waits x from' (at-left pending targets x t old)
    | inr last ↦ within (length stack) below (subst (λ (n : ℕ). slice_get (stack ++ node ∷ []) (length stack) ≡ Some n) last.1 (at-last stack node))
  ]

  -- the edges of the node itself wait
  own_edge : (t : ℕ) (b : Bound) → b.pending ≤ length pending → Arrow graph node t → Followed (set marks node (Open (length stack))) (stack ++ node ∷ []) (pending ++ targets) b t
  own_edge t b below arrow =
      let same : arrow.targets ≡ targets = let a = arrow.from in cc in
      let at : slice_get targets arrow.place ≡ Some t = subst (λ (l : List ℕ). slice_get l arrow.place ≡ Some t) same arrow.to in
      waits (length pending + arrow.place) (omega arith) (at-right pending targets arrow.place t at)

  followed : (k i v t : ℕ) (b : Bound) → slice_get (bounds ++ first ∷ []) k ≡ Some b → b.stack ≤ i → slice_get (stack ++ node ∷ []) i ≡ Some v → Arrow graph v t → Followed (set marks node (Open (length stack))) (stack ++ node ∷ []) (pending ++ targets) b t
  unfolding first
  followed k i v t b at below there arrow = elim (at-push_cases bounds first k b at) [
    | inl old ↦
        let s = search.begun k b old in
        elim (at-push_cases stack node i v there) [
          | inl was ↦ still t b (omega arith) (search.followed k i v t b old below was arrow)
          | inr last ↦ own_edge t b (room k b old) (subst (λ (n : ℕ). Arrow graph n t) (sym last.1) arrow)
        ]
    | inr end ↦
        let e_stack : length stack ≡ b.stack = ap (λ (z : Bound). z.stack) end.1 in
        let e_pending : length pending ≡ b.pending = ap (λ (z : Bound). z.pending) end.1 in
        elim (at-push_cases stack node i v there) [
          | inl was ↦ let w = at_within stack i v was in absurd (omega arith)
          | inr last ↦ own_edge t b (omega arith) (subst (λ (n : ℕ). Arrow graph n t) (sym last.1) arrow)
        ]
  ]

  old_done : (v r : ℕ) → slice_get (set marks node (Open (length stack))) v ≡ Some (Done r) → slice_get marks v ≡ Some (Done r)
  old_done v r at = elim (after v (Done r) at) [ inl old ↦ old.1 | inr own ↦ let e = own.1 in absurd cc ]

  pub entered : IsSearch graph (set marks node (Open (length stack))) (stack ++ node ∷ []) (pending ++ targets) (bounds ++ record { stack = length stack; pending = length pending } ∷ []) rank
  unfolding first
  entered = record {
    sized = length-set marks node (Open (length stack)) ∙ search.sized;
    placed = placed;
    opened = opened;
    fresh = fresh;
    inside = inside;
    rising = rising;
    begun = begun;
    belongs = belongs;
    leads = leads;
    awaits = awaits;
    followed = followed;
    falls = λ v t r at arrow. let old = search.falls v t r (old_done v r at) arrow in (old.0, before t (Done old.0) (λ e. cc) old.1, old.2);
    alike = λ v w r at_v at_w. search.alike v w r (old_done v r at_v) (old_done w r at_w);
    ranked = λ v r at. search.ranked v r (old_done v r at);
    counted = let one = count-opened marks node (length stack) new in let more = length-append bounds (first ∷ []) in let old = search.counted in omega arith;
  }

  -- the same, of what the code has at hand
  pub entered_as : (place waiting : ℕ) (stack' pending' : List ℕ) (bounds' : List Bound) → place ≡ length stack → waiting ≡ length pending → stack' ≡ stack ++ node ∷ [] → pending' ≡ pending ++ targets → bounds' ≡ bounds ++ record { stack = place; pending = waiting } ∷ [] → IsSearch graph (set marks node (Open place)) stack' pending' bounds' rank
  entered_as place waiting stack' pending' bounds' e_place e_waiting e_stack e_pending e_bounds = rw (e_stack, e_pending, e_bounds, e_place, e_waiting) entered
