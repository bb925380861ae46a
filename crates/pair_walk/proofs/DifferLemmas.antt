-- A walk that stops at a demand or a fault has found a pair that isn't alike, as deep as it says.
use Rattle.std.proofs.Common.{◌≡◌, ℕ, zero, suc, ◌+◌, List, [], ◌∷◌, ◌++◌, map, Bool, true, false, cond, Result, Ok, Err, Option, Some, None, refl, sym, ap, subst, ◌∙◌, ◌⊎◌, inl, inr, arith}
use Rattle.std.specs.List.{Contains, AllByRecursion, list_any}
use Rattle.std.proofs.lemmas.List.Elements.{Contains-append_cases, Contains-append_right}
use Rattle.pair_walk.specs.Walk.{End, by_itself, apart, past_limit, broken, Walked, Visit, Next, nothing, faulty, found, visits, unless_met, next, ended, at_limit, visited, onward, walk}
use Rattle.pair_walk.specs.Alike.{Alike, Leads, IsReady, Refuted}

module _ {P Q F : Type 0} (settle : P → Result Q F) (same : Q → Q → Bool) (steps : Q → Result (Option (List P)) F) where
  abbrev Fails : ℕ → P → Type 0
  Fails n p = Alike settle steps n p → ⊥

  abbrev Stops : List (Visit P) → ℕ → Type 0
  Stops due depth = Refuted settle steps due depth

  later_stops : (x : Visit P) (xs : List (Visit P)) (depth : ℕ) → Stops xs depth → Stops (x ∷ xs) depth
  later_stops x xs depth r = record { visit = r.visit; below = r.below; is_due = Contains-append_right (x ∷ []) xs r.visit r.is_due; is_at = r.is_at; fails = r.fails }

  -- what the first visit says of what is due: its pair is due, and so is what stands behind; a fault is that of a pair
  abbrev Stands : Next P Q F → List (Visit P) → Type 0
  Stands nothing due = Unit {0}
  Stands (faulty f) due = (depth : ℕ) × Stops due depth
  Stands (found q depth behind) due = ((n : ℕ) → (Leads settle steps (Alike settle steps n) (steps q) → ⊥) → Stops due (depth + suc n)) × ((n : ℕ) → Stops behind n → Stops due n)

  later_stands : (x : Visit P) (xs : List (Visit P)) (n : Next P Q F) → Stands n xs → Stands n (x ∷ xs)
  later_stands x xs nothing stands = tt
  later_stands x xs (faulty f) stands = (stands.0, later_stops x xs stands.0 stands.1)
  later_stands x xs (found q depth behind) stands = (λ n no. later_stops x xs (depth + suc n) (stands.0 n no), λ n stops. later_stops x xs n (stands.1 n stops))

  here_stops : (x : Visit P) (xs : List (Visit P)) (n : ℕ) → Fails n x.pair → Stops (x ∷ xs) (x.depth + n)
  here_stops x xs n fails = record { visit = x; below = n; is_due = (0, omega arith, refl); is_at = refl; fails = fails }

  by_test : (x : Visit P) (xs : List (Visit P)) (later : Next P Q F) (q : Q) → settle x.pair ≡ Ok q → Stands later xs → (b : Bool) → Stands (cond b later (found q x.depth xs)) (x ∷ xs)
  by_test x xs later q e stands true = later_stands x xs later stands
  by_test x xs later q e stands false =
      (λ n no. here_stops x xs (suc n) (λ alike. no (subst (IsReady settle steps (λ r. Leads settle steps (Alike settle steps n) (steps r))) e alike)), λ n stops. later_stops x xs n stops)

  by_settled : (met : List Q) (x : Visit P) (xs : List (Visit P)) (later : Next P Q F) (s : Result Q F) → settle x.pair ≡ s → Stands later xs
      → Stands (unless_met settle same steps met s x.depth xs later) (x ∷ xs)
  by_settled met x xs later (Err f) e stands =
      (x.depth + 1, here_stops x xs 1 (λ alike. subst (IsReady settle steps (λ r. Leads settle steps (Alike settle steps 0) (steps r))) e alike))
  by_settled met x xs later (Ok q) e stands = by_test x xs later q e stands (list_any (same q) met)

  next_stands : (met : List Q) (due : List (Visit P)) → Stands (next settle same steps met due) due
  next_stands met [] = tt
  next_stands met (x ∷ xs) = by_settled met x xs (next settle same steps met xs) (settle x.pair) refl (next_stands met xs)

  -- a pair that isn't alike among the parts, one step deeper, is one of the pair itself
  part_fails : (n : ℕ) (parts : List P) (p : P) → Contains parts p → Fails n p → AllByRecursion (Alike settle steps n) parts → ⊥
  part_fails n [] p has fails all = omega (arith, has.1)
  part_fails n (x ∷ xs) p (zero, below, is) fails all = fails (subst (Alike settle steps n) is all.0)
  part_fails n (x ∷ xs) p (suc k, below, is) fails all = part_fails n xs p (k, omega (arith, below), is) fails all.1

  is_part : (depth : ℕ) (parts : List P) (v : Visit P) → Contains (visits depth parts) v → Contains parts v.pair × (v.depth ≡ depth)
  is_part depth [] v has = absurd (omega (arith, has.1))
  is_part depth (x ∷ xs) v (zero, below, is) = ((0, omega arith, ap (λ (w : Visit P). w.pair) is), sym (ap (λ (w : Visit P). w.depth) is))
  is_part depth (x ∷ xs) v (suc k, below, is) =
      let rest = is_part depth xs v (k, omega (arith, below), is) in
      (Contains-append_right (x ∷ []) xs v.pair rest.0, rest.1)

  -- what the end of a walk says of what was due
  abbrev Says : List (Visit P) → End F → Type 0
  Says due by_itself = Unit {0}
  Says due (apart depth) = Stops due depth
  Says due past_limit = Unit {0}
  Says due (broken f) = (depth : ℕ) × Stops due depth

  says_more : (some due : List (Visit P)) → ((n : ℕ) → Stops some n → Stops due n) → (end : End F) → Says some end → Says due end
  says_more some due step by_itself says = tt
  says_more some due step (apart depth) says = step depth says
  says_more some due step past_limit says = tt
  says_more some due step (broken f) says = (says.0, step says.0 says.1)

  parts_stop : (q : Q) (parts : List P) → steps q ≡ Ok (Some parts) → (depth : ℕ) (behind due : List (Visit P)) → Stands (found q depth behind) due
      → (n : ℕ) → Stops (visits (suc depth) parts ++ behind) n → Stops due n
  parts_stop q parts e depth behind due stands n stops = by_place (Contains-append_cases (visits (suc depth) parts) behind stops.visit stops.is_due)
    where
      by_place : Contains (visits (suc depth) parts) stops.visit ⊎ Contains behind stops.visit → Stops due n
      by_place (inl has) =
          let part = is_part (suc depth) parts stops.visit has in
          let deep : n ≡ depth + suc stops.below = omega (arith, stops.is_at, part.1) in
          let fails = part_fails stops.below parts stops.visit.pair part.0 stops.fails in
          subst (Stops due) (sym deep) (stands.0 stops.below (λ leads. fails (subst (Leads settle steps (Alike settle steps stops.below)) e leads)))
      by_place (inr has) = stands.1 n (record { visit = stops.visit; below = stops.below; is_due = has; is_at = stops.is_at; fails = stops.fails })

  visit_says : (further : List Q → List (Visit P) → Walked Q F) → ((met : List Q) (due : List (Visit P)) → Says due (further met due).end)
      → (met : List Q) (q : Q) (depth : ℕ) (behind due : List (Visit P)) → Stands (found q depth behind) due → (r : Result (Option (List P)) F) → steps q ≡ r
      → Says due (visited settle same steps further met depth behind r).end
  visit_says further hyp met q depth behind due stands (Err f) e = (depth + 1, stands.0 0 (λ leads. subst (Leads settle steps (Alike settle steps 0)) e leads))
  visit_says further hyp met q depth behind due stands (Ok None) e =
      let one : depth + suc 0 ≡ suc depth = omega arith in
      subst (Stops due) one (stands.0 0 (λ leads. subst (Leads settle steps (Alike settle steps 0)) e leads))
  visit_says further hyp met q depth behind due stands (Ok (Some parts)) e =
      says_more (visits (suc depth) parts ++ behind) due (parts_stop q parts e depth behind due stands) (further met (visits (suc depth) parts ++ behind)).end
      (hyp met (visits (suc depth) parts ++ behind))

  onward_says : (further : List Q → List (Visit P) → Walked Q F) → ((met : List Q) (due : List (Visit P)) → Says due (further met due).end)
      → (met : List Q) (due : List (Visit P)) (n : Next P Q F) → Stands n due → Says due (onward settle same steps further met n).end
  onward_says further hyp met due nothing stands = tt
  onward_says further hyp met due (faulty f) stands = stands
  onward_says further hyp met due (found q depth behind) stands = visit_says further hyp (met ++ q ∷ []) q depth behind due stands (steps q) refl

  limit_says : (met : List Q) (due : List (Visit P)) (n : Next P Q F) → Stands n due → Says due (at_limit settle same steps met n).end
  limit_says met due nothing stands = tt
  limit_says met due (faulty f) stands = stands
  limit_says met due (found q depth behind) stands = tt

  pub walk_says : (n : ℕ) (met : List Q) (due : List (Visit P)) → Says due (walk settle same steps n met due).end
  unfolding walk
  walk_says zero met due = limit_says met due (next settle same steps met due) (next_stands met due)
  walk_says (suc n) met due = onward_says (walk settle same steps n) (walk_says n) met due (next settle same steps met due) (next_stands met due)

  pub differs : (n : ℕ) (due : List (Visit P)) (depth : ℕ) → (walk settle same steps n [] due).end ≡ apart depth → Stops due depth
  differs n due depth e = subst (Says due) e (walk_says n [] due)

  pub breaks : (n : ℕ) (due : List (Visit P)) (fault : F) → (walk settle same steps n [] due).end ≡ broken fault → (depth : ℕ) × Stops due depth
  breaks n due fault e = subst (Says due) e (walk_says n [] due)
