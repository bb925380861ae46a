-- What a search keeps as it follows an edge to a node that isn't new.
use Rattle.std.proofs.Common.{◌≡◌, ◌≢◌, ℕ, ◌+◌, ◌-◌, ◌<◌, ◌≤◌, ◌⊎◌, List, [], ◌∷◌, ◌++◌, length, take, slice_get, Some, sym, ap, subst, inl, inr, arith, length-take}
use Rattle.std.proofs.lemmas.Bool.{cases_lt}
use Rattle.cycle_rules.specs.declared.components.Mark.{Mark}
use Rattle.cycle_rules.specs.declared.components.Mark.TheVariants.{New, Open, Done}
use Rattle.cycle_rules.specs.declared.components.Bound.{Bound}
use Rattle.cycle_rules.specs.Search.{Belongs, Followed, done, within, waits, IsSearch, HasRoom}
use Rattle.cycle_rules.proofs.PlaceLemmas.{at_within, at_some, at-left, at-last, at-push_cases, at-take, at-taken}
use Rattle.cycle_rules.proofs.ReachesLemmas.{reaches_further}

module _ (graph : List (List ℕ)) (marks : List Mark) (stack pending : List ℕ) (bounds : List Bound) (rank target : ℕ)
    (search : IsSearch graph marks stack (pending ++ target ∷ []) bounds rank) (room : HasRoom bounds pending) where
  waited : (x v : ℕ) → slice_get pending x ≡ Some v → slice_get (pending ++ target ∷ []) x ≡ Some v
  waited x v at = at-left pending (target ∷ []) x v at

  fresh_other : (m : Mark) → slice_get marks target ≡ Some m → m ≢ New → (v : ℕ) → slice_get marks v ≡ Some New → (x : ℕ) × (slice_get pending x ≡ Some v)
  fresh_other m mark other v at =
      let w = search.fresh v at in
      elim (at-push_cases pending target w.0 v w.1) [
        | inl old ↦ (w.0, old)
        | inr last ↦ absurd (other (let own : slice_get marks target ≡ Some New = subst (λ (n : ℕ). slice_get marks n ≡ Some New) (sym last.1) at in cc))
      ]

  done_still : (r t : ℕ) (b : Bound) → slice_get marks target ≡ Some (Done r) → Followed marks stack (pending ++ target ∷ []) b t → Followed marks stack pending b t
  done_still r t b mark (done s at) = done s at
  done_still r t b mark (within i from at) = within i from at
  done_still r t b mark (waits x from at) = elim (at-push_cases pending target x t at) [
    | inl old ↦ waits x from old
    | inr last ↦ done r (subst (λ (n : ℕ). slice_get marks n ≡ Some (Done r)) last.1 mark)
  ]

  -- an edge to a node that is done
  pub passed : (r : ℕ) → slice_get marks target ≡ Some (Done r) → IsSearch graph marks stack pending bounds rank
  passed r mark = record {
    sized = search.sized;
    placed = search.placed;
    opened = search.opened;
    fresh = fresh_other (Done r) mark (λ e. cc);
    inside = λ x v at. search.inside x v (waited x v at);
    rising = search.rising;
    begun = search.begun;
    belongs = search.belongs;
    leads = search.leads;
    awaits = λ k root x v b at start below there. search.awaits k root x v b at start below (waited x v there);
    followed = λ k i v t b at below there arrow. done_still r t b mark (search.followed k i v t b at below there arrow);
    falls = search.falls;
    alike = search.alike;
    ranked = search.ranked;
    counted = search.counted;
  }

  module _ (place : ℕ) (bounds' : List Bound) (mark : slice_get marks target ≡ Some (Open place))
      (kept : bounds' ≡ take (length bounds') bounds)
      (merged : (j : ℕ) (b : Bound) → length bounds' ≤ j → slice_get bounds j ≡ Some b → place < b.stack)
      (end : (k : ℕ) (b : Bound) → k + 1 ≡ length bounds' → slice_get bounds' k ≡ Some b → b.stack ≤ place) where
    -- a bound that is left was there before
    before : (k : ℕ) (b : Bound) → slice_get bounds' k ≡ Some b → slice_get bounds k ≡ Some b
    before k b at = (at-take (length bounds') bounds k b (subst (λ (l : List Bound). slice_get l k ≡ Some b) kept at)).1

    left : (k : ℕ) (b : Bound) → k < length bounds' → slice_get bounds k ≡ Some b → slice_get bounds' k ≡ Some b
    left k b below at = subst (λ (l : List Bound). slice_get l k ≡ Some b) (sym kept) (at-taken (length bounds') bounds k b below at)

    -- the component of the target is the last that is left
    home : Belongs graph stack bounds place target
    home = search.belongs place target (search.opened target place mark)

    home_left : home.index < length bounds'
    home_left = elim (cases_lt home.index (length bounds')) [
      | inl below ↦ below
      | inr above ↦ let past = merged home.index home.bound above home.at in let at = home.below in absurd (omega arith)
    ]

    -- each bound that is left begins at the target or before
    begins : (k : ℕ) (b : Bound) → slice_get bounds' k ≡ Some b → b.stack ≤ place
    begins k b at =
        let below = at_within bounds' k b at in
        let l : (m : ℕ) × (m + 1 ≡ length bounds') = (length bounds' - 1, omega arith) in
        elim (cases_lt k l.0) [
          | inl early ↦
              let one = at_some bounds' l.0 (omega arith) in
              let after = search.rising k l.0 b one.0 (before k b at) (before l.0 one.0 one.1) early in
              let last = end l.0 one.0 l.1 one.1 in
              omega arith
          | inr late ↦ end k b (omega arith) at
        ]

    -- the last component that is left is the target's
    home_last : (k : ℕ) (b : Bound) → slice_get bounds' k ≡ Some b → k ≤ home.index
    home_last k b at = home.last k b (before k b at) (begins k b at)

    joined : (i v : ℕ) → slice_get stack i ≡ Some v → Belongs graph stack bounds' i v
    joined i v at =
        let was = search.belongs i v at in
        elim (cases_lt was.index (length bounds')) [
          | inl below ↦
              elim (cases_lt was.index home.index) [
                | inl early ↦ record {
                  index = was.index;
                  bound = was.bound;
                  root = was.root;
                  at = left was.index was.bound below was.at;
                  below = was.below;
                  last = λ k b there under. was.last k b (before k b there) under;
                  start = was.start;
                  back = was.back;
                }
                | inr late ↦ to_home i v at was (elim (cases_lt home.index was.index) [
                  | inl more ↦ inr more
                  | inr less ↦ let same : home.index ≡ was.index = omega arith in inl same
                ])
              ]
          | inr above ↦ let h = home_left in to_home i v at was (inr (omega arith))
        ]
      where
        to_home : (i v : ℕ) → slice_get stack i ≡ Some v → (was : Belongs graph stack bounds i v) → (home.index ≡ was.index) ⊎ (home.index < was.index) → Belongs graph stack bounds' i v
        to_home i v at was order = record {
          index = home.index;
          bound = home.bound;
          root = home.root;
          at = left home.index home.bound home_left home.at;
          below =
              let own = was.below in
              elim order [
                | inl same ↦
                    let h = home.at in
                    let w : slice_get bounds home.index ≡ Some was.bound = subst (λ (n : ℕ). slice_get bounds n ≡ Some was.bound) (sym same) was.at in
                    let one : home.bound ≡ was.bound = cc in
                    subst (λ (b : Bound). b.stack ≤ i) (sym one) own
                | inr later ↦ let r = search.rising home.index was.index home.bound was.bound home.at was.at later in omega arith
              ];
          last = λ k b there under. home_last k b there;
          start = home.start;
          back =
              let to_target = search.awaits was.index was.root (length pending) target was.bound was.at was.start (room was.index was.bound was.at) (at-last pending target) in
              reaches_further was.back (reaches_further to_target home.back);
        }

    joined_still : (k t : ℕ) (b : Bound) → slice_get bounds' k ≡ Some b → Followed marks stack (pending ++ target ∷ []) b t → Followed marks stack pending b t
    joined_still k t b at_k (done s at) = done s at
    joined_still k t b at_k (within i from at) = within i from at
    joined_still k t b at_k (waits x from at) = elim (at-push_cases pending target x t at) [
      | inl old ↦ waits x from old
      | inr last ↦ within place (begins k b at_k) (search.opened t place (subst (λ (n : ℕ). slice_get marks n ≡ Some (Open place)) last.1 mark))
    ]

    -- an edge to an open node makes one component of all from the node's on
    pub joins : IsSearch graph marks stack pending bounds' rank
    joins = record {
      sized = search.sized;
      placed = search.placed;
      opened = search.opened;
      fresh = fresh_other (Open place) mark (λ e. cc);
      inside = λ x v at. search.inside x v (waited x v at);
      rising = λ k l a b at_k at_l below. search.rising k l a b (before k a at_k) (before l b at_l) below;
      begun = λ k b at. search.begun k b (before k b at);
      belongs = joined;
      leads = λ k root j v b at start below there. search.leads k root j v b (before k b at) start below there;
      awaits = λ k root x v b at start below there. search.awaits k root x v b (before k b at) start below (waited x v there);
      followed = λ k i v t b at below there arrow. joined_still k t b at (search.followed k i v t b (before k b at) below there arrow);
      falls = search.falls;
      alike = search.alike;
      ranked = search.ranked;
      counted = let fewer : length bounds' ≤ length bounds = omega (arith, ap length kept, length-take (length bounds') bounds) in let old = search.counted in omega arith;
    }
