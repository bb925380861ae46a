-- A search before its first step and after its last.
use Rattle.std.proofs.Common.{◌≡◌, ℕ, ◌+◌, ◌<◌, ◌≤◌, List, [], ◌∷◌, ◌++◌, Bool, true, false, length, length-append, map, replicate, slice_get, slice_index, Some, refl, ap, ◌∙◌, subst, inl, inr, arith}
use Rattle.std.proofs.lemmas.List.{length-map}
use Rattle.std.proofs.lemmas.List.Sums.{count_by-le-length}
use Rattle.std.proofs.lemmas.Bool.{cases_lt}
use Rattle.std.proofs.lemmas.Option.{get_or_from_slice_get}
use Rattle.cycle_rules.specs.declared.components.Mark.{Mark}
use Rattle.cycle_rules.specs.declared.components.Mark.TheVariants.{New, Open, Done}
use Rattle.cycle_rules.specs.declared.components.Bound.{Bound}
use Rattle.cycle_rules.specs.Paths.{Path, edge, onward as longer, Arrow, LiesOnCycle, TellsCycles}
use Rattle.cycle_rules.specs.Search.{is_new, rank_in, IsSearch, RanksComponents}
use Rattle.cycle_rules.proofs.PlaceLemmas.{at_within, at_some, at-push_cases, at-mapped, at-map_of, at-replicate}
use Rattle.cycle_rules.proofs.ReachesLemmas.{path_from}

no_place : {X : Type 0} (i : ℕ) (x : X) → slice_get {X = X} [] i ≡ Some x → ⊥
no_place i x h = cc

pub started : (graph : List (List ℕ)) (marks : List Mark) (pending : List ℕ) → marks ≡ replicate (length graph) New → length marks ≡ length graph → length pending ≡ length graph → ((v : ℕ) → v < length graph → slice_get pending v ≡ Some v) → IsSearch graph marks [] pending [] 0
started graph marks pending all sized long each =
    let new : (v : ℕ) (m : Mark) → slice_get marks v ≡ Some m → m ≡ New = λ v m at. at-replicate (length graph) New v m (subst (λ (l : List Mark). slice_get l v ≡ Some m) all at) in
    record {
      sized = sized;
      placed = λ i v at. absurd (no_place i v at);
      opened = λ v i at. let e = new v (Open i) at in absurd cc;
      fresh = λ v at. let w = at_within marks v New at in (v, each v (omega arith));
      inside = λ x v at. let w = at_within pending x v at in let own = each x (omega arith) in let same : x ≡ v = cc in omega arith;
      rising = λ k l a b at_k at_l below. absurd (no_place k a at_k);
      begun = λ k b at. absurd (no_place k b at);
      belongs = λ i v at. absurd (no_place i v at);
      leads = λ k root j v b at start below there. absurd (no_place k b at);
      awaits = λ k root x v b at start below there. absurd (no_place k b at);
      followed = λ k i v t b at below there arrow. absurd (no_place k b at);
      falls = λ v t r at arrow. let e = new v (Done r) at in absurd cc;
      alike = λ v w r at_v at_w. let e = new v (Done r) at_v in absurd cc;
      ranked = λ v r at. let e = new v (Done r) at in absurd cc;
      counted = omega (arith, count_by-le-length is_new marks);
    }

module _ (graph : List (List ℕ)) (marks : List Mark) (stack pending : List ℕ) (bounds : List Bound) (rank : ℕ) (search : IsSearch graph marks stack pending bounds rank)
    (no_pending : length pending ≡ 0) (no_bounds : length bounds ≡ 0) where
  -- after the search each node is done
  each_done : (v : ℕ) (m : Mark) → slice_get marks v ≡ Some m → m ≡ Done (rank_in m)
  each_done v New at = let f = search.fresh v at in let w = at_within pending f.0 v f.1 in absurd (omega arith)
  each_done v (Open i) at =
      let home = search.belongs i v (search.opened v i at) in
      let w = at_within bounds home.index home.bound home.at in
      absurd (omega arith)
  each_done v (Done r) at = refl

  done_at : (v r : ℕ) → slice_get (map rank_in marks) v ≡ Some r → slice_get marks v ≡ Some (Done r)
  done_at v r at =
      let m = at-mapped rank_in marks v r at in
      let e = each_done v m.0 m.1 in
      m.1 ∙ ap Some (e ∙ ap Done m.2)

  pub ends : RanksComponents graph (map rank_in marks)
  ends = record {
    sized = length-map marks rank_in ∙ search.sized;
    falls = λ v t r at arrow.
        let one = search.falls v t r (done_at v r at) arrow in
        (one.0, at-map_of rank_in marks t (Done one.0) one.1, one.2);
    alike = λ v w r at_v at_w. search.alike v w r (done_at v r at_v) (done_at w r at_w);
  }

module _ (graph : List (List ℕ)) (ranks : List ℕ) (ranked : RanksComponents graph ranks) where
  arrow_within : (a b : ℕ) → Arrow graph a b → a < length ranks
  arrow_within a b arrow = let w = at_within graph a arrow.targets arrow.from in let s = ranked.sized in omega arith

  falls_at : (a b : ℕ) → Arrow graph a b → slice_index ranks b ≤ slice_index ranks a
  falls_at a b arrow =
      let r = at_some ranks a (arrow_within a b arrow) in
      let s = ranked.falls a b r.0 r.1 arrow in
      let at_a = get_or_from_slice_get ranks a r.0 0 r.1 in
      let at_b = get_or_from_slice_get ranks b s.0 0 s.1 in
      let low = s.2 in
      omega arith

  -- where no edge leads to the same rank, each leads to a smaller
  pub strict_at : (a b : ℕ) → ((r : ℕ) → slice_get ranks a ≡ Some r → slice_get ranks b ≡ Some r → ⊥) → Arrow graph a b → slice_index ranks b < slice_index ranks a
  strict_at a b differ arrow =
      let r = at_some ranks a (arrow_within a b arrow) in
      let s = ranked.falls a b r.0 r.1 arrow in
      let at_a = get_or_from_slice_get ranks a r.0 0 r.1 in
      let at_b = get_or_from_slice_get ranks b s.0 0 s.1 in
      let low = s.2 in
      elim (cases_lt s.0 r.0) [
        | inl less ↦ omega arith
        | inr more ↦ let same : s.0 ≡ r.0 = omega arith in absurd (differ r.0 r.1 (subst (λ (n : ℕ). slice_get ranks b ≡ Some n) same s.1))
      ]

  falls_path : {a b : ℕ} → Path (Arrow graph) a b → slice_index ranks b ≤ slice_index ranks a
  falls_path (edge e) = falls_at _ _ e
  falls_path (longer e p) = let one = falls_at _ _ e in let more = falls_path p in omega arith

  strict_path : {a b : ℕ} → ((c : ℕ) → Arrow graph a c → slice_index ranks c < slice_index ranks a) → Path (Arrow graph) a b → slice_index ranks b < slice_index ranks a
  strict_path strict (edge e) = strict _ e
  strict_path strict (longer e p) = let one = strict _ e in let more = falls_path p in omega arith

  -- a node lies on no cycle if no edge of it leads to its own rank
  pub off_cycle : (a : ℕ) → ((b r : ℕ) → Arrow graph a b → slice_get ranks a ≡ Some r → slice_get ranks b ≡ Some r → ⊥) → LiesOnCycle (Arrow graph) a → ⊥
  off_cycle a differ path = let less = strict_path (λ c arrow. strict_at a c (λ r. differ c r arrow) arrow) path in omega arith

  -- and on one if an edge does
  pub on_cycle : (a b r : ℕ) → Arrow graph a b → slice_get ranks a ≡ Some r → slice_get ranks b ≡ Some r → LiesOnCycle (Arrow graph) a
  on_cycle a b r arrow at_a at_b = path_from arrow (ranked.alike b a r at_b at_a)

  -- an edge falls where it leads from a node that lies on no cycle
  pub falls_off : (a b : ℕ) → Arrow graph a b → (LiesOnCycle (Arrow graph) a → ⊥) → slice_index ranks b < slice_index ranks a
  falls_off a b arrow none = strict_at a b (λ r at_a at_b. none (on_cycle a b r arrow at_a at_b)) arrow

  -- one more node, by the ranks of the nodes that its edges lead to
  pub told_more : (node rank : ℕ) (targets : List ℕ) → slice_get graph node ≡ Some targets → slice_get ranks node ≡ Some rank → (cyclic : Bool)
      → (cyclic ≡ true → (k : ℕ) × (v : ℕ) × (slice_get targets k ≡ Some v) × (slice_get ranks v ≡ Some rank))
      → (cyclic ≡ false → (k v : ℕ) → slice_get targets k ≡ Some v → slice_get ranks v ≡ Some rank → ⊥)
      → (told : List Bool) → TellsCycles (Arrow graph) node told → TellsCycles (Arrow graph) (node + 1) (told ++ cyclic ∷ [])
  told_more node rank targets row own cyclic some none told was = record {
    sized = length-append told (cyclic ∷ []) ∙ omega (arith, was.sized);
    yes = λ v at. elim (at-push_cases told cyclic v true at) [
      | inl old ↦ was.yes v old
      | inr new ↦
          let found = some new.1 in
          let same : node ≡ v = omega (arith, was.sized, new.0) in
          subst (LiesOnCycle (Arrow graph)) same (on_cycle node found.1 rank (record { targets = targets; place = found.0; from = row; to = found.2 }) own found.3)
    ];
    no = λ v at. elim (at-push_cases told cyclic v false at) [
      | inl old ↦ was.no v old
      | inr new ↦
          let same : node ≡ v = omega (arith, was.sized, new.0) in
          subst (λ (n : ℕ). LiesOnCycle (Arrow graph) n → ⊥) same (off_cycle node (λ b r arrow at_node at_b. only_rank arrow at_node at_b (none new.1)))
    ];
  }
    where
      only_rank : {b r : ℕ} → Arrow graph node b → slice_get ranks node ≡ Some r → slice_get ranks b ≡ Some r → ((k v : ℕ) → slice_get targets k ≡ Some v → slice_get ranks v ≡ Some rank → ⊥) → ⊥
      only_rank {b} {r} arrow at_node at_b never =
          let from = arrow.from in
          let equal : arrow.targets ≡ targets = cc in
          let alike : r ≡ rank = cc in
          never arrow.place b (subst (λ (l : List ℕ). slice_get l arrow.place ≡ Some b) equal arrow.to) (subst (λ (n : ℕ). slice_get ranks b ≡ Some n) alike at_b)
